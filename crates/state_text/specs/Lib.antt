pub mod Places
pub mod Words
pub mod Texts
pub mod Controls
pub mod States
pub mod Stops
