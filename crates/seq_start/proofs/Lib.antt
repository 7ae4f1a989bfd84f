pub mod Committers
pub mod Denying
pub mod Generated
pub mod Plans
