pub mod Subjects
pub mod Growing
pub mod Climbing
pub mod Holding
pub mod Ranging
pub mod Between
