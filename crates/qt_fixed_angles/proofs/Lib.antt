pub mod Lists
pub mod Expanding
pub mod Views
pub mod Marking
pub mod Programs
mod examples
