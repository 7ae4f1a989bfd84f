pub mod Moving
pub mod Chains
pub mod Deleting
pub mod Updating
pub mod ValueLaws
pub mod Keeping
pub mod Listing
pub mod Named
