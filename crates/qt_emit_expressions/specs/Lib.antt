pub mod Adds
pub mod Emits
pub mod Quotients
