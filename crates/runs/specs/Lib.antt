pub mod Host
pub mod CallContracts
pub mod Runs
