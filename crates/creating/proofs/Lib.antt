-- The laws of creating.
pub mod Laws
