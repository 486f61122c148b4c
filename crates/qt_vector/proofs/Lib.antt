pub mod Made
pub mod Reduced
