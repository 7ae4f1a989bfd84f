pub mod Committers
pub mod Messages
pub mod Commits
pub mod Causes
