pub mod Stops
pub mod Outcomes
mod Steps
mod Fronts
mod Answered
