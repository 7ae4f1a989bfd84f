pub mod Causes
pub mod Reads
pub mod Puts
pub mod Prefixes
pub mod Named
pub mod Halts
