pub mod Includes
pub mod Steps
