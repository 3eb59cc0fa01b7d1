-- What the calls that C links tell, and the promises that they keep.
pub mod Linked
pub mod Promises
