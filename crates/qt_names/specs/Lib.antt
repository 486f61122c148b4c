pub mod Entries
pub mod Scopes
pub mod Seen
pub mod Tables
pub mod Undoing
