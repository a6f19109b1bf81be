pub mod Adopts
pub mod Answers
pub mod Lines
pub mod Stores
