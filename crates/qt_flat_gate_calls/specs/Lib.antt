pub mod Fits
pub mod Landing
pub mod Laws
