pub mod Walk
pub mod Reader
pub mod Passed
pub mod Find
