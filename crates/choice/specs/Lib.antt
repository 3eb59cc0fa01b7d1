pub mod Pick
pub mod Rules
pub mod Table
