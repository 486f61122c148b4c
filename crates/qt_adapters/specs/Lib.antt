pub mod Adapters
pub mod Reading
