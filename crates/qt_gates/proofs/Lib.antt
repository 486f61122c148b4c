pub mod Printed
pub mod Turns
pub mod Rotations
