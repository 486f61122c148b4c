pub mod Limited
pub mod Maps
