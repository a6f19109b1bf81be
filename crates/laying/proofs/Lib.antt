pub mod Standing
pub mod Types
pub mod Terms
pub mod Bindings
pub mod Marked
pub mod Places
pub mod Going
pub mod Whole
