pub mod Powers
pub mod FirstEntry
pub mod Canonical
pub mod Laws
