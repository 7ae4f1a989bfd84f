pub mod Subjects
pub mod Committing
pub mod Within
