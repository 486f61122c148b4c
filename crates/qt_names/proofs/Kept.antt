-- What a scope keeps, in the words of a map.
use Rattle.std.proofs.Common.{◌≡◌, ◌-◌, ◌<◌, cond, Option, Some, None, IsSome, List, [], ◌∷◌, ◌++◌, length, take, nat_eq, string_bytes, refl, sym, ap, ◌∙◌, arith, append-nil, length-append, true≢false}
use Rattle.std.specs.declared.string.String.{String}
use Rattle.std.specs.Cmp.Lexicographic.{pointwise}
use Rattle.std.specs.Map.{lookup}
use Rattle.std.specs.Option.{option_to_list}
use Rattle.std.proofs.Math.Seq.{take-append_seam}
use Rattle.std.proofs.lemmas.List.{map-append}
use Rattle.qt_names.specs.declared.named.Named.{Named}
use Rattle.qt_names.specs.Entries.{Entry, Name, entries_of, entry_of}
use Rattle.qt_names.specs.Scopes.{found_in}
use Rattle.qt_names.specs.Undoing.{without_last}

pub without_last-push : (scope : List Entry) (entry : Entry) → without_last (scope ++ entry ∷ []) ≡ scope
without_last-push scope entry =
    let e : length (scope ++ entry ∷ []) - 1 ≡ length scope = omega (arith, length-append scope (entry ∷ [])) in
    ap (λ n. take n (scope ++ entry ∷ [])) e ∙ take-append_seam scope (entry ∷ [])

module _ {Z : Type 0} where
  pub lookup_found : (name : Name) (pairs : List (String Z × Named)) → lookup (λ key. pointwise nat_eq name (string_bytes key)) pairs ≡ found_in (entries_of pairs) name
  unfolding entries_of found_in
  lookup_found name [] = refl
  lookup_found name (pair ∷ pairs) = ap (λ rest. cond (pointwise nat_eq name (string_bytes pair.0)) (Some pair.1) rest) (lookup_found name pairs)

  pub entries_of-push : (pairs : List (String Z × Named)) (pair : String Z × Named) → entries_of (pairs ++ pair ∷ []) ≡ entries_of pairs ++ entry_of pair ∷ []
  unfolding entries_of
  entries_of-push pairs pair = map-append entry_of pairs (pair ∷ [])

  -- the last pair is taken out, where there is one
  pub entries_of-pop : (pairs rest : List (String Z × Named)) (last : Option (String Z × Named)) → pairs ≡ rest ++ option_to_list last → (0 < length pairs → IsSome last) → entries_of rest ≡ without_last (entries_of pairs)
  unfolding entries_of
  entries_of-pop pairs rest (Some pair) is there = rw is (sym (ap without_last (entries_of-push rest pair) ∙ without_last-push (entries_of rest) (entry_of pair)))
  entries_of-pop [] rest None is there = ap entries_of (sym (is ∙ append-nil rest))
  entries_of-pop (pair ∷ pairs) rest None is there = absurd (true≢false (sym (there (omega arith))))
