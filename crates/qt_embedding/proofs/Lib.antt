pub mod Tests
pub mod Masks
pub mod Controls
pub mod Products
pub mod Twins
