pub mod Least
pub mod Idents
pub mod Lines
pub mod Committed
