-- The laws of headers.
pub mod Within
pub mod Before
