pub mod Lists
pub mod Sizes
pub mod Rows
pub mod Plain
pub mod Weighed
