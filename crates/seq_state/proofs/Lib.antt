pub mod Labels
pub mod Listing
pub mod Leaving
pub mod Placing
pub mod Chains
pub mod Parsing
pub mod Messages
pub mod Packed
