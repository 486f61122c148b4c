-- The last entries of names in a list that grows and shrinks at its end.
use Rattle.std.proofs.Common.{◌≡◌, ℕ, suc, nat_eq, Bool, true, false, cond, List, [], ◌∷◌, ◌++◌, length, map, slice_get, Option, Some, None, refl, sym, ap, subst, ◌∙◌, append-nil, append_assoc, is_some, true≢false}
use Rattle.std.specs.Cmp.{unsigned_Decides}
use Rattle.std.specs.Cmp.Lexicographic.{pointwise, pointwise_decides, nat_list_eq_equiv}
use Rattle.std.proofs.lemmas.List.{map-append, length-map}
use Rattle.std.specs.Option.{option_map, option_or}
use Rattle.qt_const_rules.specs.Latest.{Mark, Name, AreLinked, IsIndexed, entries_of, is_marked, last_at, place_in}
use Rattle.qt_const_rules.specs.Names.{known_of, said_of}
use Rattle.qt_const_rules.specs.declared.consts.Entry.{Entry}
use Rattle.qt_const_rules.specs.declared.consts.Kept.{Kept}
use Rattle.qt_const_rules.specs.declared.consts.Known.{Known}

-- an entry at the end is the last of its name, and of no other
pub last_at-push : (entries : List Entry) (entry : Entry) (name : Name) → last_at (entries ++ entry ∷ []) name ≡ cond (pointwise nat_eq entry.name name) (Some (length entries)) (last_at entries name)
unfolding last_at
last_at-push [] entry name = refl
last_at-push (first ∷ entries) entry name =
    ap (λ o. option_or (option_map (λ place. suc place) o) (cond (pointwise nat_eq first.name name) (Some 0) None)) (last_at-push entries entry name) ∙ by (pointwise nat_eq entry.name name)
  where
    by : (b : Bool) → option_or (option_map (λ place. suc place) (cond b (Some (length entries)) (last_at entries name))) (cond (pointwise nat_eq first.name name) (Some 0) None) ≡ cond b (Some (suc (length entries))) (option_or (option_map (λ place. suc place) (last_at entries name)) (cond (pointwise nat_eq first.name name) (Some 0) None))
    by true = refl
    by false = refl

-- what a place says is known
unfoldable pub IsKnown : List Entry → Option Known → Option ℕ → Type 0
IsKnown entries known None = known ≡ None
IsKnown entries known (Some place) = (entry : Entry) × (slice_get entries place ≡ Some entry) × (known ≡ Some entry.known)

pub known_at : (entries : List Entry) (name : Name) → IsKnown entries (known_of entries name) (last_at entries name)
unfolding last_at IsKnown
known_at [] name = refl
known_at (entry ∷ later) name = by (last_at later name) (known_at later name)
  where
    rest : (b : Bool) → known_of later name ≡ None → IsKnown (entry ∷ later) (option_or (known_of later name) (cond b (Some entry.known) None)) (cond b (Some 0) None)
    rest true none = (entry, refl, ap (λ o. option_or o (Some entry.known)) none)
    rest false none = ap (λ o. option_or o None) none

    by : (place : Option ℕ) → IsKnown later (known_of later name) place → IsKnown (entry ∷ later) (option_or (known_of later name) (said_of entry name)) (option_or (option_map (λ p. suc p) place) (cond (pointwise nat_eq entry.name name) (Some 0) None))
    by None none = rest (pointwise nat_eq entry.name name) none
    by (Some place) it = (it.0, it.1, ap (λ o. option_or o (said_of entry name)) it.2)

-- ---- links
pub links-push : (before : List Entry) (kept : List Kept) (it : Kept) → AreLinked before kept → it.earlier ≡ last_at (before ++ entries_of kept) it.entry.name → AreLinked before (kept ++ it ∷ [])
unfolding AreLinked
links-push before [] it done is = (is ∙ ap (λ l. last_at l it.entry.name) (append-nil before), tt)
links-push before (first ∷ kept) it done is =
    (done.0, links-push (before ++ first.entry ∷ []) kept it done.1 (is ∙ ap (λ l. last_at l it.entry.name) (sym (append_assoc before (first.entry ∷ []) (entries_of kept)))))

pub links-pop : (before : List Entry) (kept : List Kept) (it : Kept) → AreLinked before (kept ++ it ∷ []) → AreLinked before kept × (it.earlier ≡ last_at (before ++ entries_of kept) it.entry.name)
unfolding AreLinked
links-pop before [] it done = (tt, done.0 ∙ ap (λ l. last_at l it.entry.name) (sym (append-nil before)))
links-pop before (first ∷ kept) it done =
    let rest = links-pop (before ++ first.entry ∷ []) kept it done.1 in
    ((done.0, rest.0), rest.1 ∙ ap (λ l. last_at l it.entry.name) (append_assoc before (first.entry ∷ []) (entries_of kept)))

-- ---- what is kept beside the entries
pub indexed-nothing : IsIndexed [] []
unfolding place_in last_at AreLinked
indexed-nothing = record { places = λ name. refl; links = tt }

pub indexed-push : (kept : List Kept) (marks held after : List Mark) (it : Kept) → IsIndexed kept marks
    → ((name : Name) → place_in held name ≡ place_in marks name)
    → it.earlier ≡ place_in held it.entry.name
    → ((name : Name) → place_in after name ≡ cond (pointwise nat_eq it.entry.name name) (Some (length kept)) (place_in held name))
    → IsIndexed (kept ++ it ∷ []) after
indexed-push kept marks held after it was same earlier set = record {
  places = λ name.
      set name
      ∙ ap (λ o. cond (pointwise nat_eq it.entry.name name) (Some (length kept)) o) (same name ∙ was.places name)
      ∙ ap (λ n. cond (pointwise nat_eq it.entry.name name) (Some n) (last_at (entries_of kept) name)) (sym (length-map kept (λ k. k.entry)))
      ∙ sym (last_at-push (entries_of kept) it.entry name)
      ∙ ap (λ l. last_at l name) (sym (map-append (λ k. k.entry) kept (it ∷ [])));
  links = links-push [] kept it was.links (earlier ∙ same it.entry.name ∙ was.places it.entry.name);
}

pub indexed-pop : (kept : List Kept) (marks after : List Mark) (it : Kept) → IsIndexed (kept ++ it ∷ []) marks
    → ((name : Name) → place_in after name ≡ cond (pointwise nat_eq it.entry.name name) it.earlier (place_in marks name))
    → IsIndexed kept after
indexed-pop kept marks after it was set =
    let links = links-pop [] kept it was.links in
    record {
      places = λ name.
          set name
          ∙ ap (λ o. cond (pointwise nat_eq it.entry.name name) it.earlier o) (was.places name ∙ ap (λ l. last_at l name) (map-append (λ k. k.entry) kept (it ∷ [])) ∙ last_at-push (entries_of kept) it.entry name)
          ∙ by name (pointwise nat_eq it.entry.name name) refl links.1;
      links = links.0;
    }
  where
    by : (name : Name) (b : Bool) → pointwise nat_eq it.entry.name name ≡ b → it.earlier ≡ last_at (entries_of kept) it.entry.name
        → cond b it.earlier (cond b (Some (length (entries_of kept))) (last_at (entries_of kept) name)) ≡ last_at (entries_of kept) name
    by name true is earlier = earlier ∙ ap (λ n. last_at (entries_of kept) n) ((pointwise_decides unsigned_Decides it.entry.name name).0 is)
    by name false is earlier = refl

-- a name with a place is among the marks
pub placed-marked : (marks : List Mark) (name : Name) (place : ℕ) → place_in marks name ≡ Some place → is_marked marks name ≡ true
unfolding place_in is_marked
placed-marked [] name place is = absurd (true≢false (sym (ap is_some is)))
placed-marked (mark ∷ marks) name place is = by (pointwise nat_eq name mark.0) is (placed-marked marks name place)
  where
    by : (b : Bool) → cond b mark.1 (place_in marks name) ≡ Some place → (place_in marks name ≡ Some place → is_marked marks name ≡ true) → cond b true (is_marked marks name) ≡ true
    by true here later = refl
    by false here later = later here

-- the last entry's name is among the marks
pub last-marked : (kept : List Kept) (marks : List Mark) (it : Kept) → IsIndexed (kept ++ it ∷ []) marks → is_marked marks it.entry.name ≡ true
last-marked kept marks it was =
    placed-marked marks it.entry.name (length (entries_of kept))
    (was.places it.entry.name
    ∙ ap (λ l. last_at l it.entry.name) (map-append (λ k. k.entry) kept (it ∷ []))
    ∙ last_at-push (entries_of kept) it.entry it.entry.name
    ∙ ap (λ b. cond b (Some (length (entries_of kept))) (last_at (entries_of kept) it.entry.name)) (nat_list_eq_equiv.refl it.entry.name))

-- ---- what is known of a name, by the place of its last entry
pub known_none : (entries : List Entry) (name : Name) → last_at entries name ≡ None → known_of entries name ≡ None
unfolding IsKnown
known_none entries name at = subst (λ place. IsKnown entries (known_of entries name) place) at (known_at entries name)

pub known_some : (entries : List Entry) (name : Name) (place : ℕ) → last_at entries name ≡ Some place → known_of entries name ≡ option_map (λ entry. entry.known) (slice_get entries place)
unfolding IsKnown
known_some entries name place at =
    let it = subst (λ p. IsKnown entries (known_of entries name) p) at (known_at entries name) in
    it.2 ∙ sym (ap (λ o. option_map (λ entry. entry.known) o) it.1)
