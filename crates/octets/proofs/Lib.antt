-- The laws of octets: what layers above cite, and what one turn of a loop does.
pub mod Laid
pub mod Numbers
pub mod Parts
pub mod Same
mod Turns
