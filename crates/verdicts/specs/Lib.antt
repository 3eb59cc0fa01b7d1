pub mod Decided
pub mod Ready
