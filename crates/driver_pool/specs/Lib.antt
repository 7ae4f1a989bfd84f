pub mod Files
pub mod Commands
pub mod ShellWords
pub mod Pools
pub mod Drives
