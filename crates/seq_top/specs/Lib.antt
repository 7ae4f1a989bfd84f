pub mod Built
pub mod Answers
