pub mod Folders
pub mod Ends
pub mod Maps
pub mod Clean
pub mod Indexes
pub mod Driving
