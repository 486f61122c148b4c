pub mod Sizes
pub mod StatementViews
