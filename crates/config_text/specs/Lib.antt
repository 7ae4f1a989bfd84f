pub mod Bytes
pub mod Values
pub mod Configs
pub mod Lookups
pub mod Faults
pub mod Reading
pub mod Returns
pub mod Files
