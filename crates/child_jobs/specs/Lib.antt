pub mod Jobs
pub mod Editors
