pub mod Spelling
pub mod Written
pub mod Tables
pub mod Lists
pub mod NamedForms
