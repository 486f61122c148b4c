pub mod Primitives
pub mod Laws
