-- What a call leaves and shows.
pub mod Does
pub mod Answers
-- Records that a call writes.
pub mod Buffers
pub mod Refusals
pub mod Stored
-- Each call does what the machine does: start over any bytes, the others over good records and over useless bytes.
pub mod Front
pub mod Longer
pub mod Begins
pub mod Opens
pub mod Takes
pub mod Feeds
pub mod Right
-- Runs: what they show, demand 3, and what holds after a start.
pub mod Ran
pub mod Same
pub mod StrikeOut
pub mod Numbers
pub mod Begun
pub mod AtWork
