pub mod Faults
pub mod Reads
pub mod Rows
pub mod Puts
pub mod Collisions
pub mod Named
pub mod Halts
