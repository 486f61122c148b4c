pub mod Fits
pub mod Seen
pub mod Bodies
pub mod Laws
