pub mod Service
pub mod Machine
pub mod Messages
