pub mod Lands
pub mod Fits
pub mod Laws
