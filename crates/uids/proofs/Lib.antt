-- The laws of UIDs: what layers above cite, what one turn of a loop does, and examples.
pub mod Decimal
pub mod Length
pub mod Made
pub mod Padding
mod Components
mod Examples
mod Turns
