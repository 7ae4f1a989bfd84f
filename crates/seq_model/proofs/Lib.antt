pub mod Owning
pub mod Repositories
pub mod Judged
