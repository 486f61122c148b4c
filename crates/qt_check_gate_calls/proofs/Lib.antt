pub mod Meeting
pub mod Singles
pub mod StandardGates
pub mod Units
