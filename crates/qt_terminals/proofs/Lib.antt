pub mod Codes
pub mod Numbers
pub mod Lists
pub mod Cuts
pub mod Integers
pub mod Ends
