-- The laws of elements.
pub mod Within
pub mod Steps
pub mod Grammar
pub mod Laws
pub mod Stops
pub mod Beyond
pub mod Before
pub mod Passed
pub mod Ceiling
