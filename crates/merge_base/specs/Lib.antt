pub mod Graphs
pub mod Shape
pub mod Adding
pub mod Bases
pub mod Ranges
pub mod Marks
