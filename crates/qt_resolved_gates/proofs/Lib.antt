pub mod Acting
pub mod Apart
pub mod Stepping
