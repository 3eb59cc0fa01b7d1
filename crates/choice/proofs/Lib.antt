-- The laws of choices.
pub mod Broken
pub mod Picks
pub mod Rows
