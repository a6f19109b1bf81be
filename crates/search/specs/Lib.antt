pub mod Frames
pub mod Searches
pub mod Turns
pub mod Goes
pub mod Stops
pub mod Outcomes
