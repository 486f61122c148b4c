mod StepForms
mod SlotForms
mod TargetForms
