pub mod Laws
pub mod Agreeing
pub mod Counting
pub mod Following
pub mod Longest
pub mod Touching
pub mod Lines
pub mod Terminals
