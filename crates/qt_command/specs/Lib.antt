pub mod Command
pub mod Numbers
pub mod Arguments
pub mod Lines
