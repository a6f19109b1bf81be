pub mod Binders
pub mod Judgments
pub mod Parsing
pub mod Rows
pub mod Source
