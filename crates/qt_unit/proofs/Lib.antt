pub mod EpsilonParts
pub mod Fifths
pub mod Falls
pub mod Rises
pub mod Words
pub mod Products
