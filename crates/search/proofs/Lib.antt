pub mod Scans
pub mod Laying
pub mod Acts
pub mod Advances
pub mod Placing
pub mod Runs
pub mod Starts
pub mod Seeks
