pub mod Loads
pub mod Laws
pub mod Waiting
pub mod Walks
