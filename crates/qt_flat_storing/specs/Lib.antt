pub mod Fits
pub mod Laws
pub mod Stores
