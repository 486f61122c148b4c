pub mod Doubling
pub mod Projected
pub mod Swapped
pub mod Totals
