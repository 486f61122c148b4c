pub mod Laws
pub mod Mass
