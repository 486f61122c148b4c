pub mod Joining
pub mod Lines
