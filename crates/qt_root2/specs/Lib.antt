pub mod Laws
pub mod Masses
pub mod Numerators
pub mod Real
pub mod Root2
pub mod Scaling
