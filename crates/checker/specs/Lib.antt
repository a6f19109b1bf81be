pub mod Checked
pub mod Columns
pub mod Decide
pub mod Indexes
pub mod Seen
