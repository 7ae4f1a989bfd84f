pub mod Chain
pub mod Cleaned
pub mod Kinds
pub mod Lines
pub mod Paragraphs
pub mod Picked
