pub mod Places
pub mod Growing
pub mod Marking
pub mod Reaching
pub mod Best
pub mod Ordered
