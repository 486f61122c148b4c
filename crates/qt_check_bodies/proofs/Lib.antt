pub mod Each
pub mod FormViews
pub mod Slots
