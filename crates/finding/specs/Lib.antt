pub mod Gives
pub mod Gathered
