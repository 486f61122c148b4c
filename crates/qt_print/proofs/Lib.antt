pub mod Puts
pub mod Equations
pub mod Forms
pub mod Lines
pub mod Items
pub mod Texts
