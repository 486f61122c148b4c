pub mod Arriving
pub mod Standing
pub mod Coming
pub mod Lengths
pub mod Numbers
pub mod Operators
pub mod Places
pub mod Stepping
pub mod Copies
pub mod Indexes
pub mod Slices
pub mod Rooms
pub mod Sized
pub mod Expressions
mod Landing
