pub mod PathWords
pub mod Indexed
pub mod Removals
pub mod Additions
