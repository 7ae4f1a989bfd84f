pub mod Running
pub mod Lasting
pub mod Following
pub mod Asking
