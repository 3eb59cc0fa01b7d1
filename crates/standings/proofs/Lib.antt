-- The laws of standings.
pub mod Laws
