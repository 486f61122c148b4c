pub mod QubitViews
pub mod Sharing
