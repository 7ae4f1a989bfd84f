pub mod Grammar
pub mod Lines
pub mod Readers
pub mod Keywords
pub mod Gives
pub mod Decimals
