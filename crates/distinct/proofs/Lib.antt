-- What is read where it lies, and arrays there; what `all` told of them, film by film; serials in ascending order.
pub mod InPlace
pub mod Arrays
pub mod Ranges
pub mod Steps
mod Films
mod Told
mod Ascending
