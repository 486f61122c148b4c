pub mod ListViews
