pub mod Choices
pub mod Lists
pub mod Modifiers
pub mod Semicolons
pub mod Tails
