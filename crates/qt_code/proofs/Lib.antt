pub mod Agreeing
pub mod Conversions
pub mod Differing
mod Examples
pub mod Numbered
pub mod Passing
pub mod Rooms
pub mod Steps
mod Ways
