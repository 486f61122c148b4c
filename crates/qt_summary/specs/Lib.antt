pub mod Summary
pub mod Lines
