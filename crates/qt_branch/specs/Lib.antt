pub mod Amplitudes
pub mod Laws
pub mod Parts
