pub mod States
pub mod Vectors
pub mod Laws
