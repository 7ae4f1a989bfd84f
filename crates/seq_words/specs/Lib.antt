pub mod Forms
pub mod Held
pub mod Next
pub mod Reading
pub mod Rows
pub mod Told
pub mod VerbWords
pub mod Verbs
