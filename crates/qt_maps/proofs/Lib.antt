pub mod Gathering
pub mod Limits
