pub mod Lengths
pub mod Lists
pub mod Views
pub mod Flags
pub mod Numbers
pub mod Tables
pub mod Calls
