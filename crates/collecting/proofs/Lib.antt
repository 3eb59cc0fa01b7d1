-- Laws of headers, of a command that is filled up, and of what a fragment comes to.
mod Headers
mod Filled
mod Outcomes
mod Written
mod Held
pub mod Meant
