pub mod Layers
pub mod Operators
pub mod Reckons
pub mod Steps
