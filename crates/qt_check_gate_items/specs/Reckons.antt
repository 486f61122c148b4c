-- A part of an angle as the check keeps it, and what a call ensures that finds one: what the definition finds, or want of memory.
use Rattle.std.specs.Prelude.{◌≡◌, ◌≢◌, Ok, Err}
use Rattle.qt_tree.specs.declared.refusal.TextRefusal.TheVariants as refusal
use Rattle.qt_typing.specs.Checked.{Checked}
use Rattle.qt_typing.specs.GateItems as spec
use Rattle.qt_check_gate_items.specs.declared.reckoned.Reckoned.{Reckoned}
use Rattle.qt_check_gate_items.specs.declared.reckoned.Reckoned.TheVariants as reckoned

abbrev pub as_reckoned : Reckoned → spec.Reckoned
as_reckoned (reckoned.Constant c) = spec.Constant c
as_reckoned (reckoned.Angular a) = spec.Angular a

abbrev pub Reckons : Checked spec.Reckoned → Checked Reckoned → Type 0
Reckons outcome (Ok r) = outcome ≡ Ok (as_reckoned r)
Reckons outcome (Err e) = e ≢ refusal.OutOfMemory → outcome ≡ Err e
