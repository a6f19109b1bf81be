pub mod Trees
pub mod Definitions
pub mod Judgments
pub mod Calls
pub mod Runs
pub mod Law
pub mod Cases
