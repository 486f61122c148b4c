pub mod Controls
pub mod Entries
