pub mod EmitsStep
