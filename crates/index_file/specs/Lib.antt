pub mod Entries
pub mod Spelling
pub mod Fronts
pub mod Reading
pub mod Faults
pub mod Index
