-- Worked examples of the book, computed; how many bytes its formats have, and that they obey the laws; the records that no call refuses.
pub mod Book
pub mod Messages
pub mod Stage
pub mod Examples
pub mod Worked
pub mod Refusals
pub mod Sizes
pub mod Steps
pub mod Accepted
pub mod Formats
pub mod Traces
pub mod Traced
pub mod Codes
pub mod Limits
pub mod Broken
pub mod Answers
