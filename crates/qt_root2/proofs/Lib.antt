pub mod Good
pub mod Loops
pub mod Masses
pub mod Reals
pub mod Ring
pub mod Scales
pub mod Steps
pub mod Words
