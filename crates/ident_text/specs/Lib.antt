pub mod Idents
pub mod Ids
pub mod AuthorScripts
pub mod Faults
pub mod ReadIdents
pub mod ReadScripts
