pub mod Simulation
pub mod Opened
pub mod Fate
pub mod Collecting
pub mod Lies
pub mod History
pub mod Fakes
pub mod Toy
