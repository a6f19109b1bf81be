pub mod Form
pub mod Pages
