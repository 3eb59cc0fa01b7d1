-- What one turn of each loop does.
pub mod Turns
