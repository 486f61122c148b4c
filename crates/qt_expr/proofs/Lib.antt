pub mod Alternatives
pub mod Forms
pub mod HandedOn
pub mod Lists
pub mod Loops
pub mod Promises
pub mod Steps
