pub mod OneToken
pub mod Refusals
