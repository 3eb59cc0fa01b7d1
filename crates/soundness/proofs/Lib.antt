-- The number of a refused call; the message half collected by its bytes.
pub mod Refused
mod InPlace
