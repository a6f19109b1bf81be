pub mod Named
pub mod Layout
