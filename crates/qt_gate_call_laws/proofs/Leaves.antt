-- What is compared of leaves goes through what follows them.
use Rattle.std.proofs.Common.{◌≡◌, List, [], ◌∷◌, ◌++◌, map, refl, sym, ap, ◌∙◌, append-nil}
use Rattle.std.specs.List.{flat_map}
use Rattle.qt_meaning.specs.Points.{Point, Signal, On, Broken, Continued, Returned, Ended, Faulted, Dry, Leaf, Run, leaf, go_on, then_do}
use Rattle.qt_gate_call_laws.specs.Seen.{seen_point, seen, LookAlike}

pub alike : (a b : List Leaf) → a ≡ b → LookAlike a b
alike a b e = record { same = ap (map seen) e }

pub alike_then : {a b c : List Leaf} → LookAlike a b → LookAlike b c → LookAlike a c
alike_then l m = record { same = l.same ∙ m.same }

pub alike_back : {a b : List Leaf} → LookAlike a b → LookAlike b a
alike_back l = record { same = sym l.same }

map-append : (a b : List Leaf) → map seen (a ++ b) ≡ map seen a ++ map seen b
map-append [] b = refl
map-append (l ∷ a) b = ap (λ t. seen l ∷ t) (map-append a b)

one_more : (next : Run) (s : Signal) (p : Point) → map seen (go_on next s p) ≡ map seen (go_on next s (seen_point s p))
one_more next On p = refl
one_more next Broken p = refl
one_more next Continued p = refl
one_more next Returned p = refl
one_more next Ended p = refl
one_more next (Faulted fault place) p = refl
one_more next Dry p = refl

abbrev followed : Run → List Leaf → List Leaf
followed next ls = flat_map (λ l. go_on next l.signal l.point) ls

seen_first : (next : Run) (ls : List Leaf) → map seen (followed next ls) ≡ map seen (followed next (map seen ls))
seen_first next [] = refl
seen_first next (l ∷ ls) =
    map-append (go_on next l.signal l.point) (followed next ls)
    ∙ ap (λ t. t ++ map seen (followed next ls)) (one_more next l.signal l.point)
    ∙ ap (λ t. map seen (go_on next l.signal (seen_point l.signal l.point)) ++ t) (seen_first next ls)
    ∙ sym (map-append (go_on next l.signal (seen_point l.signal l.point)) (followed next (map seen ls)))

-- runs that look alike, with the same behind them
pub then_alike : (a b next : Run) (p q : Point) → LookAlike (a p) (b q) → LookAlike (then_do a next p) (then_do b next q)
then_alike a b next p q l = record {
  same = seen_first next (a p) ∙ ap (λ t. map seen (followed next t)) l.same ∙ sym (seen_first next (b q));
}

-- behind the leaf of a fault nothing follows
pub faulted_then : (next : Run) (fault : _) (place : _) (p : Point) → then_do (leaf (Faulted fault place)) next p ≡ leaf (Faulted fault place) p
faulted_then next fault place p = refl

pub on_then : (next : Run) (p : Point) → then_do (leaf On) next p ≡ next p
on_then next p = append-nil (next p)
