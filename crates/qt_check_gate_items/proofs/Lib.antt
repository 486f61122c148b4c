pub mod BodyQubits
pub mod Inside
pub mod OperatorViews
pub mod Views
pub mod Written
