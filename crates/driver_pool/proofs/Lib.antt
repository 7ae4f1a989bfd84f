pub mod Quoting
pub mod FilePaths
pub mod Driving
pub mod Running
pub mod Seeing
