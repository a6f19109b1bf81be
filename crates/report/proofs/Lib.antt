mod Adopting
mod Columns
