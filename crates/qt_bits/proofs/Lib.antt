pub mod BitSums
pub mod Powers
pub mod Residues
