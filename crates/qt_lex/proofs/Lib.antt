pub mod Tables
pub mod Heads
pub mod Words
pub mod Places
pub mod Numbers
pub mod Counts
pub mod BitRuns
pub mod Decimals
pub mod LongestToken
pub mod Single
pub mod Exact
pub mod Spans
pub mod Decided
pub mod Readings
mod Steps
mod Faults
