pub mod Tree
pub mod Bytes
pub mod Fit
pub mod Place
pub mod Headers
