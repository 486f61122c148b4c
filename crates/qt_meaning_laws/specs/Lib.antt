pub mod Maps
pub mod Unitary
pub mod Masses
