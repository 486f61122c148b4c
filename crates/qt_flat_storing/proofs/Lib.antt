pub mod BitSteps
pub mod Bits
pub mod Copying
pub mod Storing
pub mod Targets
pub mod Variables
