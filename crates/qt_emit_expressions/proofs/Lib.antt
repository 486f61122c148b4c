pub mod Adding
pub mod Copying
pub mod LengthViews
pub mod CodeViews
pub mod EmittedForms
