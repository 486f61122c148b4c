-- What a call ensures that changes what later statements see: what that becomes, or want of memory.
use Rattle.std.specs.Prelude.{◌≡◌, ◌≢◌, Ok, Err}
use Rattle.qt_tree.specs.declared.refusal.TextRefusal.TheVariants as refusal
use Rattle.qt_typing.specs.Checked.{Checked}

abbrev pub Becomes : {S : Type 0} → Checked S → Checked (Unit {0}) → S → Type 0
Becomes outcome (Ok done) new = outcome ≡ Ok new
Becomes outcome (Err e) new = e ≢ refusal.OutOfMemory → outcome ≡ Err e
