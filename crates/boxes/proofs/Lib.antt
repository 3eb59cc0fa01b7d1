-- The laws of an image box's attributes.
pub mod Laws
