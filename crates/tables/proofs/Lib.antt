pub mod Adopting
