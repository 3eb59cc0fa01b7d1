-- What one turn of each loop does, and what is queued.
mod Rest
mod Positions
mod Counted
pub mod Queued
