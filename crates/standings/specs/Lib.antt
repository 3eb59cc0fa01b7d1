pub mod Severity
pub mod Level
pub mod Founds
