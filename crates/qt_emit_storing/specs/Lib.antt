pub mod BitsIn
pub mod Writes
