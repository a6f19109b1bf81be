pub mod Actions
pub mod Terms
pub mod Wides
pub mod Reuse
pub mod Room
pub mod Nodes
