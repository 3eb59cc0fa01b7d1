-- What the exported functions tell, and the demands that they meet.
pub mod Exported
pub mod Demands
