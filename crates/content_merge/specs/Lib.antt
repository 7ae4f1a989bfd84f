pub mod Drivers
pub mod RuleFiles
pub mod Fates
pub mod Jobs
pub mod Merging
pub mod Causes
