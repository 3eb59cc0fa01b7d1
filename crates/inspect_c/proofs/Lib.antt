-- What the call that C links tells.
pub mod Linked
