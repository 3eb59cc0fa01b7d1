-- Lists without one of their elements; lists that are filled to so many places; the one at a place of a list's first few.
mod Without
pub mod Filled
pub mod Within
