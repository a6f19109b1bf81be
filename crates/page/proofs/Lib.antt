pub mod Adoption
pub mod Digits
pub mod Rows
pub mod Written
