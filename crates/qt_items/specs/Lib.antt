pub mod Parser
