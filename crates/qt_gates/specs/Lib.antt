pub mod Named
pub mod Forms
pub mod Printed
pub mod Laws
