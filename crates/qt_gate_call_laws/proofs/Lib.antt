pub mod Eighths
pub mod Leaves
pub mod Multiplied
