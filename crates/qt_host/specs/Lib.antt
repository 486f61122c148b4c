pub mod Lines
pub mod Said
pub mod Puts
pub mod Steps
pub mod Formatting
pub use Rattle.qt_outside.specs.Causes
