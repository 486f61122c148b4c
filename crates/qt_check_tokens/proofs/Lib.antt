pub mod ExpressionViews
pub mod FormViews
pub mod ListViews
