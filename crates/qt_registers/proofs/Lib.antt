pub mod Meeting
pub mod Numbers
pub mod Overlaps
pub mod Progressions
pub mod Runs
pub mod Stepping
