pub mod Begun
pub mod Named
pub mod Initing
pub mod Indexing
pub mod Adding
pub mod Removing
pub mod Printing
pub mod Plumbed
