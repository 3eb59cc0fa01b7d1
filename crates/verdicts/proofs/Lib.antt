-- The laws of plans.
pub mod Plans
