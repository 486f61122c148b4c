pub mod Bits
pub mod Large
pub mod Lists
pub mod Sets
pub mod Widths
