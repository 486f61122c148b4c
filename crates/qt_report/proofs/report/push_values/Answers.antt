use Rattle.std.proofs.Common.{◌≡◌, ◌+◌, ◌++◌, List, ℕ, ◌∷◌, [], arith, rules, length, refl, inl, inr}
use Rattle.std.specs.List.{join_with_byte}
use Rattle.std.specs.String.{string_bytes}
use Rattle.std.specs.Slice.Iter.{iter_rest}
use Rattle.qt_report.specs.Outcomes.{BitRegister}
use Rattle.qt_report.specs.Report.{register_text, values_texts}
use Rattle.qt_report.proofs.Joining.{rest_joined, first_written, later_written, all_written}
use Rattle.qt_report.proofs.report.push_values.Goals as goal
use Rattle.qt_report.proofs.report.push_values.Goals.{then-place-gt0+in_ok-push, else-place-gt0}

pub loop-place-preserved : goal.loop-place-preserved
loop-place-preserved c =
    let step = c.in-Some.ensures.steps in
    let written = c.loop-place.place-iterator.count in
    let text = register_text c.in-Some.register.now c.in-Some.value.now in
    let rest = values_texts (iter_rest c.next.new.self.iter.a) (iter_rest c.next.new.self.iter.b) in
    let whole = string_bytes c.args.text.now ++ join_with_byte 32 (values_texts c.args.layout.now c.args.values.now) in
    let before : string_bytes c.loop-place.text ++ rest_joined written (text ∷ rest) ≡ whole = rw (step.0.0, step.0.1) at c.loop-place.invariant in
    let result : string_bytes c.push_register.new.text ++ rest_joined (written + 1) rest ≡ whole =
    elim c.if-place-gt0.branch [
      | then-place-gt0+in_ok-push w ↦
          let spaced : string_bytes w.push.new.self ≡ string_bytes c.loop-place.text ++ 32 ∷ [] = search rules in
          later_written (string_bytes c.loop-place.text) _ whole text rest written (omega arith)
          (rw (c.in_ok-push_register.ensures, w.text-is, spaced)) before
      | else-place-gt0 w ↦
          first_written (string_bytes c.loop-place.text) _ whole text rest written (omega arith)
          (rw (c.in_ok-push_register.ensures, w.text-is)) before
    ] in
    rw step.2 result

no_layout : (layout : List BitRegister) (values : List ℕ) → length layout ≡ 0 → values_texts layout values ≡ []
no_layout [] values none = refl
no_layout (register ∷ layout) values none = absurd (omega (arith, none))

no_values : (layout : List BitRegister) (values : List ℕ) → length values ≡ 0 → values_texts layout values ≡ []
no_values [] values none = refl
no_values (register ∷ layout) [] none = refl
no_values (register ∷ layout) (value ∷ values) none = absurd (omega (arith, none))

pub returns : goal.returns
returns c =
    let registers = iter_rest c.loop-place.place-iterator.iter.a in
    let values = iter_rest c.loop-place.place-iterator.iter.b in
    let none : values_texts registers values ≡ [] =
    elim c.in-None.ensures.steps.0 [ inl end ↦ no_layout registers values end.1.0 | inr end ↦ no_values registers values end.1.0 ] in
    all_written (string_bytes c.loop-place.text) _ (values_texts registers values) c.loop-place.place-iterator.count none c.loop-place.invariant
