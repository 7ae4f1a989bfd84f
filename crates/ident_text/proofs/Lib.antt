pub mod Secs
pub mod IdentLaws
pub mod ScriptLaws
pub mod IdLaws
