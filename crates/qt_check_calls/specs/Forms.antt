-- What is found, as the definitions have it: what a call is given so far, and what a right side is.
use Rattle.qt_check_calls.specs.declared.arguments.Given.{Given}
use Rattle.qt_check_calls.specs.declared.right.RightForm.{RightForm}
use Rattle.qt_check_calls.specs.declared.right.RightForm.TheVariants as form
use Rattle.std.specs.Prelude.{◌≡◌, ◌≢◌, Ok, Err}
use Rattle.qt_tree.specs.declared.refusal.TextRefusal.TheVariants as refusal
use Rattle.qt_typing.specs.Checked.{Checked}
use Rattle.qt_typing.specs.Calls as calls

abbrev pub given_of : Given → calls.Given
given_of given = record { values = given.values; qubits = given.qubits }

-- what a call ensures that answers what is given, or want of memory
abbrev pub GivesGiven : Checked calls.Given → Checked Given → Type 0
GivesGiven outcome (Ok given) = outcome ≡ Ok (given_of given)
GivesGiven outcome (Err e) = e ≢ refusal.OutOfMemory → outcome ≡ Err e

abbrev pub form_of : RightForm → calls.RightForm
form_of (form.Measured operand) = calls.Measured operand.now
form_of (form.Calls name given) = calls.Calls name.now given.now
form_of (form.Plain expr) = calls.Plain expr.now
