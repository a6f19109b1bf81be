pub mod LineTables
pub mod Tables
