pub mod Seen
pub mod Applying
pub mod Laws
