pub mod Parser
pub mod Nested
pub mod Answers
pub mod Growth
pub mod HandedOn
