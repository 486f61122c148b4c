pub mod Words
pub mod RowSums
pub mod Halves
pub mod Writing
pub mod Phases
pub mod Reducing
