pub mod Search
pub mod Serials
pub mod There
