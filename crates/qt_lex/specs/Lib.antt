pub mod Bytes
pub mod Numbers
pub mod Bits
pub mod Tokens
pub mod Theorems
pub mod Answers
