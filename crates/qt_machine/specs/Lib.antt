pub mod Faults
pub mod Named
pub mod Phases
pub mod Writes
