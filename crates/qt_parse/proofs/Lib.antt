pub mod Alternatives
pub mod Levels
pub mod Lists
pub mod Promises
pub mod Whole
