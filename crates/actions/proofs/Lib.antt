pub mod Reading
pub mod Forms
pub mod Reused
pub mod Rests
pub mod Parts
