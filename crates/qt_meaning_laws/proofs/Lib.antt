pub mod Runs
pub mod Trees
pub mod Programs
pub mod Fuel
pub mod Maps
pub mod Factors
pub mod Matrices
pub mod Unitary
pub mod StateMasses
pub mod Named
pub mod LeafMasses
pub mod Standard
mod Example
