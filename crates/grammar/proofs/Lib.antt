pub mod Coming
mod Unique
mod Events
pub mod Steps
pub mod Words
mod Stopping
mod Read
pub mod OneAnswer
mod Rows
mod Total
pub mod Cases
mod Places
mod ToWritten
mod FromWritten
mod Matches
mod Table
mod Moves
mod Fills
mod Follows
mod Stuck
pub mod Stopped
pub mod Answer
pub mod Laws
