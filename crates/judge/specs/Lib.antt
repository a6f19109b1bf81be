pub mod Goals
pub mod Plans
pub mod Seeking
pub mod Phrases
pub mod Judgments
pub mod Loop
