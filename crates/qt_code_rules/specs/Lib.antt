pub mod Counts
pub mod Jumps
pub mod References
pub mod Sizes
