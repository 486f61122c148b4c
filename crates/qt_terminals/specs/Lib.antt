pub mod Literals
pub mod Alphabet
pub mod Terminals
pub mod Found
