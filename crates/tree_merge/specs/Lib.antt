pub mod Choices
pub mod Choosing
pub mod Plans
pub mod Walks
pub mod Marks
pub mod Results
