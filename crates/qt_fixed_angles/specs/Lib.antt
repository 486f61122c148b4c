pub mod Angles
pub mod Reached
