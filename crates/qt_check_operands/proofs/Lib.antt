pub mod EveryIndex
pub mod Fewer
pub mod PartViews
pub mod Steps
pub mod Written
