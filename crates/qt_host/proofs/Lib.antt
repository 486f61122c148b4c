pub mod Answers
pub mod OneAnswer
pub mod Formatting
pub mod Deciding
pub mod FirstForm
pub mod Distributions
pub mod SomeAnswer
