pub mod TargetViews
