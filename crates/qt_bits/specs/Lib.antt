pub mod BitPlaces
pub mod Residues
