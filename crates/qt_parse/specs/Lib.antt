pub mod Parser
pub mod Promise
