-- The laws of writing: how long what is written is, and that the reader reads it back.
pub mod Sizes
pub mod Chain
pub mod Allowed
pub mod HeaderBack
pub mod ListBack
pub mod FindBack
pub mod ItemsBack
pub mod RoundTrip
pub mod Counted
pub mod Reached
pub mod Loose
mod Examples
