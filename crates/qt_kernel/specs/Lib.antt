pub mod Primitives
pub mod Gates
pub mod Products
