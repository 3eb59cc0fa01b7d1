-- The laws of commands: what layers above cite, and what the functions rest on.
pub mod Within
mod Laws
mod Gathering
mod Held
mod Requests
mod WellFormed
mod Slots
