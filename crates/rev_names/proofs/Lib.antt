pub mod Ancestors
pub mod Behind
pub mod Entries
pub mod First
pub mod Reading
pub mod Tags
