mod LoopForms
