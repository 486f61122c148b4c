pub mod Beginning
pub mod Sizes
pub mod Whole
