-- Pieces of code that do what runs do, one after another.
use Rattle.std.proofs.Common.{◌≡◌, ℕ, List, [], ◌∷◌, ◌++◌, refl, sym, ap, subst, ◌∙◌}
use Rattle.std.specs.List.{flat_map}
use Rattle.std.proofs.lemmas.List.Concat.{flat_map-append}
use Rattle.qt_meaning.specs.Points.{Point, Signal, On, Broken, Continued, Returned, Ended, Faulted, Dry, Leaf, Run, leaf, go_on, then_do}
use Rattle.qt_instructions.specs.declared.parts.Parts.{Parts}
use Rattle.qt_gate_call_laws.proofs.Leaves.{alike, alike_then, on_then}
use Rattle.qt_flat_gate_calls.specs.Landing.{RunLands}

abbrev followed : Run → List Leaf → List Leaf
followed next ls = flat_map (λ l. go_on next l.signal l.point) ls

one_more : (second next : Run) (s : Signal) (q : Point) → followed next (go_on second s q) ≡ go_on (then_do second next) s q
one_more second next On q = refl
one_more second next Broken q = refl
one_more second next Continued q = refl
one_more second next Returned q = refl
one_more second next Ended q = refl
one_more second next (Faulted fault place) q = refl
one_more second next Dry q = refl

each_followed : (second next : Run) (ls : List Leaf) → followed next (followed second ls) ≡ followed (then_do second next) ls
each_followed second next [] = refl
each_followed second next (l ∷ ls) =
    flat_map-append (λ k. go_on next k.signal k.point) (go_on second l.signal l.point) (followed second ls)
    ∙ ap (λ ks. ks ++ followed next (followed second ls)) (one_more second next l.signal l.point)
    ∙ ap (λ ks. go_on (then_do second next) l.signal l.point ++ ks) (each_followed second next ls)

-- three runs in a row
pub then_then : (first second next : Run) (p : Point) → then_do (then_do first second) next p ≡ then_do first (then_do second next) p
then_then first second next p = each_followed second next (first p)

pub lands_then : (code : Parts) (at mid to : ℕ) (first second : Run) → RunLands code at mid first → RunLands code mid to second
    → RunLands code at to (then_do first second)
lands_then code at mid to first second a b = record {
  by = λ next cells p whole goes.
      alike_then
      (a.by (then_do second next) cells p whole (λ new q e w. b.by next new q w (λ newer r f v. goes newer r (f ∙ e) v)))
      (alike _ _ (sym (then_then first second next p)));
}

-- no code does nothing
pub lands_here : (code : Parts) (at to : ℕ) → at ≡ to → RunLands code at to (leaf On)
lands_here code at to e = subst (λ n. RunLands code at n (leaf On)) e (record {
  by = λ next cells p whole goes. alike_then (goes cells p refl whole) (alike _ _ (sym (on_then next p)));
})
