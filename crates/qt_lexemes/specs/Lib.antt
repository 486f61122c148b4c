pub mod Spacing
pub mod Literals
pub mod Operators
pub mod Lexemes
pub mod Page
