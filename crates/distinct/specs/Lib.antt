pub mod Films
pub mod Apart
pub mod Ascending
