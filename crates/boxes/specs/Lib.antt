pub mod Images
pub mod Founds
