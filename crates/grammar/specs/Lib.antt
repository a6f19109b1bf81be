pub mod Answers
-- What a phrase is: the forms in which it is written.
pub mod Written
-- How a source is read: the rows by which the next token decides, and what is met on the way.
pub mod Notation
pub mod Grammar
pub mod Derives
-- The answer to the items of a source, and what is proved of it.
pub mod Reading
pub mod Cases
pub mod Laws
-- What functions promise that read by the rows.
pub mod Steps
