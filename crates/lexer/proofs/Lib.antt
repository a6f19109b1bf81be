pub mod Cases
pub mod Columns
pub mod LexiconItems
pub mod LexiconSpace
pub mod LexiconWords
pub mod Skipping
pub mod Spellings
