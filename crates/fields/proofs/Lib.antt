-- The laws of formats; what a struct's writer does step by step; what one turn of a loop over an array does.
pub mod Laws
pub mod Steps
pub mod Turns
pub mod Blocks
mod Examples
