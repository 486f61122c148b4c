pub mod Landing
pub mod Lists
pub mod Sites
