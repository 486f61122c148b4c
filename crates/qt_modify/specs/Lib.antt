pub mod Reckoning
pub mod Needs
pub mod Expansions
pub mod Known
pub mod Eighths
pub mod Calls
