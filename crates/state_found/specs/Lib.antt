pub mod Recalled
pub mod Found
pub mod Judged
pub mod Reads
pub mod Left
