-- Flags that are set.
use Rattle.std.proofs.Common.{◌≡◌, ℕ, zero, suc, ◌+◌, ◌-◌, ◌<◌, ◌≤◌, List, [], ◌∷◌, length, get_or, Some, refl, sym, ap, subst, ◌∙◌, arith, inl, inr, ◌⊎◌}
use Rattle.std.specs.Prelude.{Bool, true, false, ◌||◌, slice_get, slice_set}
use Rattle.std.proofs.lemmas.Bool.{cases_lt}
use Rattle.qt_typed.specs.declared.program.TypedSubroutine.{TypedSubroutine}
use Rattle.qt_typed.specs.declared.statement.TypedStatement.{TypedStatement}
use Rattle.qt_modify.specs.Needs.{flag_at, is_number}
use Rattle.qt_modify.proofs.Flags.{marked}
use Rattle.qt_fixed_angles.specs.Reached.{AreClosed, AreMarked, Covers, Marks, calls, list_calls}

right_true : (b : Bool) → b || true ≡ true
right_true true = refl
right_true false = refl

pub either : (a b : Bool) → a || b ≡ true → (a ≡ true) ⊎ (b ≡ true)
either true b e = inl refl
either false b e = inr e

pub number_is : (n i : ℕ) → is_number n i ≡ true → n ≡ i
number_is zero zero e = refl
number_is zero (suc i) e = absurd (cc e)
number_is (suc n) zero e = absurd (cc e)
number_is (suc n) (suc i) e = ap suc (number_is n i e)

other_number : (n i : ℕ) → n < i → is_number n i ≡ false
other_number zero zero h = absurd (omega (arith, h))
other_number zero (suc i) h = refl
other_number (suc n) zero h = refl
other_number (suc n) (suc i) h = other_number n i (omega (arith, h))

or_not : (b : Bool) → b || false ≡ b
or_not true = refl
or_not false = refl

pub one_marked : (below : ℕ) (old new : List Bool) (n : ℕ) → n < below → below ≤ length old → new ≡ slice_set old n true
    → Marks below old new (is_number n)
one_marked below old new n h l is =
    let by : (i : ℕ) → flag_at new i ≡ flag_at old i || is_number n i = marked old old new n (λ i. refl) (omega (arith, h, l)) is in
    record {
      kept = λ i e. by i ∙ ap (λ b. b || is_number n i) e;
      set = λ i b e. by i ∙ ap (λ c. flag_at old i || c) e ∙ right_true (flag_at old i);
      behind = λ i b. by i ∙ ap (λ c. flag_at old i || c) (other_number n i (omega (arith, h, b))) ∙ or_not (flag_at old i);
    }

pub none_marked : (below : ℕ) (flags : List Bool) (n : ℕ) → below ≤ n → Marks below flags flags (is_number n)
none_marked below flags n h = record {
  kept = λ i e. e;
  set = λ i b e. let same : n ≡ i = number_is n i e in absurd (omega (arith, b, h, same));
  behind = λ i b. refl;
}

pub nothing_marked : (below : ℕ) (flags : List Bool) → Marks below flags flags (λ i. false)
nothing_marked below flags = record { kept = λ i e. e; set = λ i b e. absurd (cc e); behind = λ i b. refl }

pub both_marked : (below : ℕ) (old mid new : List Bool) (f g : ℕ → Bool) → Marks below old mid f → Marks below mid new g
    → Marks below old new (λ i. f i || g i)
both_marked below old mid new f g a b = record {
  kept = λ i e. b.kept i (a.kept i e);
  set = λ i h e. by_side i h (either (f i) (g i) e);
  behind = λ i h. b.behind i h ∙ a.behind i h;
}
  where
    by_side : (i : ℕ) → i < below → (f i ≡ true) ⊎ (g i ≡ true) → flag_at new i ≡ true
    by_side i h (inl e) = b.kept i (a.set i h e)
    by_side i h (inr e) = b.set i h e

-- ---- loops over statements: what is still to be marked

abbrev pub Rest : ℕ → List Bool → List TypedStatement → List Bool → List TypedStatement → Type 0
Rest below flags left old whole = (new : List Bool) → Marks below flags new (list_calls left) → Marks below old new (list_calls whole)

pub one_less : (below : ℕ) (flags mid old : List Bool) (first : TypedStatement) (left whole : List TypedStatement)
    → Rest below flags (first ∷ left) old whole → Marks below flags mid (calls first) → Rest below mid left old whole
one_less below flags mid old first left whole rest one = λ new more. rest new (both_marked below flags mid new (calls first) (list_calls left) one more)

pub none_left : (below : ℕ) (flags old : List Bool) (left whole : List TypedStatement) → length left < 1 → Rest below flags left old whole
    → Marks below old flags (list_calls whole)
none_left below flags old [] whole few rest = rest flags (nothing_marked below flags)
none_left below flags old (s ∷ left) whole few rest = absurd (omega (arith, few))

-- ---- subroutines from the last one back

-- those from that number on are closed
abbrev pub AreClosedFrom : ℕ → List TypedSubroutine → List Bool → Type 0
AreClosedFrom n subroutines flags =
    (i : ℕ) (s : TypedSubroutine) → n ≤ i → slice_get subroutines i ≡ Some s → flag_at flags i ≡ true → AreMarked i flags s.body

still_closed : (below i : ℕ) (old new : List Bool) (ss : List TypedStatement) (more : ℕ → Bool) → Marks below old new more
    → AreMarked i old ss → AreMarked i new ss
still_closed below i old new ss more m are = λ j h e. m.kept j (are j h e)

some_same : {A : Type 0} (a b : A) → Some a ≡ Some b → a ≡ b
some_same a b e = cc e

-- the subroutine before those from n on is put in
pub one_closed : (subroutines : List TypedSubroutine) (m n : ℕ) (s : TypedSubroutine) (old new : List Bool) → n ≤ m + 1
    → slice_get subroutines m ≡ Some s → AreClosedFrom n subroutines old → Marks m old new (list_calls s.body)
    → AreClosedFrom m subroutines new
one_closed subroutines m n s old new before at are marks = λ i x h e f. by_number i x h e f (cases_lt m i)
  where
    by_number : (i : ℕ) (x : TypedSubroutine) → m ≤ i → slice_get subroutines i ≡ Some x → flag_at new i ≡ true
        → (m < i) ⊎ (i ≤ m) → AreMarked i new x.body
    by_number i x h e f (inl l) =
        still_closed m i old new x.body (list_calls s.body) marks (are i x (omega (arith, l, before)) e (sym (marks.behind i h) ∙ f))
    by_number i x h e f (inr l) =
        let same : m ≡ i = omega (arith, h, l) in
        let its : s ≡ x = some_same s x (sym at ∙ ap (slice_get subroutines) same ∙ e) in
        subst (λ (k : ℕ). AreMarked k new x.body) same
        (λ j b c. marks.set j b (ap (λ (y : TypedSubroutine). list_calls y.body j) its ∙ c))

-- the subroutine before those from n on isn't put in
pub one_passed : (subroutines : List TypedSubroutine) (m n : ℕ) (flags : List Bool) → n ≤ m + 1 → flag_at flags m ≡ false
    → AreClosedFrom n subroutines flags → AreClosedFrom m subroutines flags
one_passed subroutines m n flags before unset are = λ i x h e f. by_number i x h e f (cases_lt m i)
  where
    by_number : (i : ℕ) (x : TypedSubroutine) → m ≤ i → slice_get subroutines i ≡ Some x → flag_at flags i ≡ true
        → (m < i) ⊎ (i ≤ m) → AreMarked i flags x.body
    by_number i x h e f (inl l) = are i x (omega (arith, l, before)) e f
    by_number i x h e f (inr l) =
        let same : m ≡ i = omega (arith, h, l) in
        let both : false ≡ true = sym unset ∙ ap (flag_at flags) same ∙ f in
        absurd (cc both)

slice_get_past : (subroutines : List TypedSubroutine) (i : ℕ) (s : TypedSubroutine) → length subroutines ≤ i
    → slice_get subroutines i ≡ Some s → ⊥
slice_get_past [] i s h e = absurd (cc e)
slice_get_past (x ∷ subroutines) zero s h e = absurd (omega (arith, h))
slice_get_past (x ∷ subroutines) (suc i) s h e = slice_get_past subroutines i s (omega (arith, h)) e

pub none_behind : (subroutines : List TypedSubroutine) (flags : List Bool) → AreClosedFrom (length subroutines) subroutines flags
none_behind subroutines flags = λ i s h e f. absurd (slice_get_past subroutines i s h e)

pub slice_at : (subroutines : List TypedSubroutine) (i : ℕ) (s : TypedSubroutine) → i < length subroutines → s ≡ get_or subroutines i s
    → slice_get subroutines i ≡ Some s
slice_at [] i s h e = absurd (omega (arith, h))
slice_at (x ∷ subroutines) zero s h e = ap Some (sym e)
slice_at (x ∷ subroutines) (suc i) s h e = slice_at subroutines i s (omega (arith, h)) e

pub all_closed : (subroutines : List TypedSubroutine) (flags : List Bool) (n : ℕ) → n ≤ 0 → AreClosedFrom n subroutines flags
    → AreClosed subroutines flags
all_closed subroutines flags n few are = λ i s e f. are i s (omega (arith, few)) e f

-- ---- programs

pub covered : (subroutines : List TypedSubroutine) (body : List TypedStatement) (old mid new : List Bool)
    → Marks (length subroutines) old mid (list_calls body) → ((i : ℕ) → flag_at mid i ≡ true → flag_at new i ≡ true)
    → AreClosed subroutines new → Covers subroutines body new
covered subroutines body old mid new m kept closed = record { program = λ i h e. kept i (m.set i h e); each = closed }
