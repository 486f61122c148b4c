pub mod Leading
pub mod Plain
pub mod Turning
pub mod Valid
