pub mod Pendings
pub mod Takings
