pub mod Tree
pub mod Distribution
pub mod Tally
