-- The code of the qubits of a call lands: their numbers come to cells, and are tested to be qubits and to differ.
use Rattle.std.proofs.Common.{◌≡◌, ℕ, suc, ◌+◌, ◌<◌, ◌≤◌, Bool, true, false, ◌||◌, nat_lt, if◌then◌else◌, Ok, Err, List, [], ◌∷◌, length, map, refl, sym, ap, subst, ◌∙◌, arith}
use Rattle.std.proofs.lemmas.Bool.{lt-ltb}
use Rattle.std.specs.List.{All, list_any}
use Rattle.qt_tree.specs.declared.place.Place.{Place}
use Rattle.qt_registers.specs.declared.fixed.FixedQubit.{FixedQubit}
use Rattle.qt_gate_calls.specs.Primitives.{nth_or}
use Rattle.qt_typed.specs.Types.{type_of}
use Rattle.qt_typed.specs.declared.call.TypedQubit.{TypedQubit}
use Rattle.qt_typed.specs.declared.call.TypedQubit.TheVariants as qubit
use Rattle.qt_typed.specs.declared.expression.TypedExpr.{TypedExpr}
use Rattle.qt_meaning.specs.Applying.{different}
use Rattle.qt_meaning.specs.Expressions.{eval}
use Rattle.qt_meaning.specs.Places.{Site, fixed_number, register_number, number_named, qubit_tested, numbers_named, all_tested}
use Rattle.qt_meaning.specs.Points.{Point, with_result}
use Rattle.qt_meaning.specs.Values.{Evaluated, Index, SameQubit, and_then, place_in, slot_at}
use Rattle.qt_meaning.specs.WellFormed.{QubitFits, Scope}
use Rattle.qt_meaning_laws.proofs.Named as named
use Rattle.qt_meaning_laws.proofs.Named.{all_more, all_none, qubits_are}
use Rattle.qt_meaning_laws.proofs.Runs.{all_first, all_later}
use Rattle.qt_instructions.specs.declared.reference.QubitRef.{QubitRef}
use Rattle.qt_instructions.specs.declared.reference.QubitRef.TheVariants as reference
use Rattle.qt_instructions.specs.declared.instruction.Instr.{Instr}
use Rattle.qt_instructions.specs.declared.instruction.Instr.TheVariants as instr
use Rattle.qt_instructions.specs.declared.parts.Parts.{Parts}
use Rattle.qt_code.specs.Cells.{Cells, named_by, no_cells, qubit_of, qubits_of, with_cell}
use Rattle.qt_code.specs.Tail.{tail}
use Rattle.qt_code.specs.Tested.{is_work}
use Rattle.qt_code.proofs.Steps.{tail_at, tail_with}
use Rattle.qt_flat_code.specs.Lengths.{expression_length}
use Rattle.qt_flat_code.specs.Expressions.{expression_code, operand}
use Rattle.qt_flat_code.specs.GateCalls.{behind_qubit, behind_qubits, qubit_code, qubit_length, qubits_code, qubits_length, reference_in, references_in, test_code, test_if}
use Rattle.qt_flat_expressions.specs.Lands.{KeepsBelow, StandsAt}
use Rattle.qt_flat_expressions.proofs.Coming.{comes_written, keeps_all}
use Rattle.qt_flat_expressions.proofs.Expressions.{expression_comes, got_comes}
use Rattle.qt_flat_expressions.proofs.Lengths.{Long, expression_long, joined}
use Rattle.qt_flat_expressions.proofs.Standing.{stands_behind, stands_first}
use Rattle.qt_flat_gate_calls.specs.Fits.{FixedDiffer, IndexFits, IndexesFit, SiteFits}
use Rattle.qt_flat_expressions.proofs.Arriving.{Gets, InCell, gets_here, gets_other, gets_same, gets_then, gets_value}

-- ---- how long the code is

pub qubit_long : (q : TypedQubit) (site : Site) (cell at : ℕ) → Long (qubit_code q site cell at) (qubit_length q)
qubit_long (qubit.Fixed q) site cell at = record { long = refl }
qubit_long (qubit.Slot slot) site cell at = record { long = refl }
qubit_long (qubit.Indexed register index) site cell at =
    joined _ _ _ _ (expression_long index site.base cell at) (record { long = refl })

pub qubits_long : (qs : List TypedQubit) (site : Site) (cell at : ℕ) → Long (qubits_code qs site cell at) (qubits_length qs)
qubits_long [] site cell at = record { long = refl }
qubits_long (q ∷ qs) site cell at =
    joined _ _ _ _ (qubit_long q site cell at) (qubits_long qs site (behind_qubit q cell) (at + qubit_length q))

-- ---- references

-- a reference reads a cell before the one behind it
named_kept : (q : TypedQubit) (site : Site) (cell : ℕ) (old new : Cells) → KeepsBelow (behind_qubit q cell) old new
    → named_by (reference_in q site cell) new ≡ named_by (reference_in q site cell) old
named_kept (qubit.Fixed q) site cell old new h = refl
named_kept (qubit.Slot slot) site cell old new h = h cell (omega arith)
named_kept (qubit.Indexed register index) site cell old new h = h cell (omega arith)

tested_kept : (n : ℕ) (r : QubitRef) (old new : Cells) → named_by r new ≡ named_by r old → qubit_of n r new ≡ qubit_of n r old
tested_kept n (reference.At q) old new e = refl
tested_kept n (reference.Work cell) old new e = ap (λ y. if nat_lt y n then Ok y else Err Index) e

behind_later : (q : TypedQubit) (cell : ℕ) → cell ≤ behind_qubit q cell
behind_later (qubit.Fixed q) cell = omega arith
behind_later (qubit.Slot slot) cell = omega arith
behind_later (qubit.Indexed register index) cell = omega arith

pub behind_more : (qs : List TypedQubit) (cell : ℕ) → cell ≤ behind_qubits qs cell
behind_more [] cell = omega arith
behind_more (q ∷ qs) cell =
    let a = behind_later q cell in
    let b = behind_more qs (behind_qubit q cell) in
    omega arith

-- and so do those of a list
pub names_kept : (qs : List TypedQubit) (site : Site) (cell n : ℕ) (old new : Cells) → behind_qubits qs cell ≤ n → KeepsBelow n old new
    → map (λ r. named_by r new) (references_in qs site cell) ≡ map (λ r. named_by r old) (references_in qs site cell)
names_kept [] site cell n old new l h = refl
names_kept (q ∷ qs) site cell n old new l h =
    let next = behind_qubit q cell in
    let m : next ≤ behind_qubits qs next = behind_more qs next in
    let g : behind_qubits qs next ≤ n = l in
    ap (λ x. x ∷ map (λ r. named_by r new) (references_in qs site next)) (named_kept q site cell old new (λ other k. h other (omega arith)))
    ∙ ap (λ xs. named_by (reference_in q site cell) old ∷ xs) (names_kept qs site next n old new l h)

length_map : {A B : Type 0} (f : A → B) (xs : List A) → length (map f xs) ≡ length xs
length_map f [] = refl
length_map f (x ∷ xs) = ap suc (length_map f xs)

module _ (code : Parts) (place : Place) (p : Point) (scope : Scope) (site : Site) (slots : ℕ) (same : site.qubits ≡ code.qubits)
    (stands : SiteFits scope site) where
  pub as_named : named.SiteFits scope site
  as_named = record { same_qubits = stands.qubits; sizes = stands.sizes; members = stands.members }

  -- ---- one qubit

  -- its reference names the number, and is tested as it
  abbrev pub NamedIn : TypedQubit → ℕ → ℕ → Cells → Type 0
  NamedIn q cell number new =
      (named_by (reference_in q site cell) new ≡ number) × (qubit_of code.qubits (reference_in q site cell) new ≡ qubit_tested site q number)

  slot_tested : (x y : ℕ) → y ≡ x → (if nat_lt y code.qubits then Ok y else Err Index) ≡ (if nat_lt x site.qubits then Ok x else Err Index)
  slot_tested x y e = ap (λ z. if nat_lt z code.qubits then Ok z else Err Index) e ∙ ap (λ n. if nat_lt x n then Ok x else Err Index) (sym same)

  -- a qubit of a register is one of the program's
  register_below : (register : List FixedQubit) (index : TypedExpr) (number : ℕ) → QubitFits scope (qubit.Indexed register index)
      → number_named site (qubit.Indexed register index) p.store ≡ Ok number → number < code.qubits
  register_below register index number fits e =
      let q : TypedQubit = qubit.Indexed register index in
      let a = qubits_are scope site as_named (q ∷ []) p.store (number ∷ []) (number ∷ []) (all_more (QubitFits scope) q [] fits (all_none (QubitFits scope)))
      (ap (λ v. and_then v (λ n. and_then (Ok []) (λ ns. Ok (n ∷ ns)))) e) refl in
      let l : number < scope.qubits = all_first (λ n. n < scope.qubits) number [] a.0 in
      subst (λ n. number < n) (sym stands.qubits ∙ same) l

  indexed_tested : (x y : ℕ) → y ≡ x → x < code.qubits → (if nat_lt y code.qubits then Ok y else Err Index) ≡ Ok x
  indexed_tested x y e l =
      ap (λ z. if nat_lt z code.qubits then Ok z else Err Index) e ∙ ap (λ b. if b then Ok x else Err Index) (lt-ltb x code.qubits l)

  pub qubit_gets : (q : TypedQubit) → IndexFits slots q → QubitFits scope q → (cell at to : ℕ) (cells : Cells)
      → StandsAt code place at (qubit_code q site cell at) → at + qubit_length q ≡ to
      → Gets code place p ℕ at cells to cell (NamedIn q cell) (number_named site q p.store)
  qubit_gets (qubit.Fixed q) fits within cell at to cells h t =
      gets_here code place p at cells to cell (NamedIn (qubit.Fixed q) cell) (fixed_number site q) (refl, refl) (omega (arith, t))
  qubit_gets (qubit.Slot slot) fits within cell at to cells h t =
      gets_other code place p at cells to cell (InCell code place p cell) (NamedIn (qubit.Slot slot) cell) (Ok (slot_at p.store (site.base + slot)))
      (λ new x is holds kept. (holds, slot_tested x (new cell) holds))
      (gets_value code place p at cells to cell (Ok (slot_at p.store (site.base + slot)))
      (got_comes code place p at cell (site.base + slot) to [] cells h (omega (arith, t))))
  qubit_gets (qubit.Indexed register index) fits within cell at to cells h t =
      let numbers = map (fixed_number site) register in
      let of = type_of index in
      let a = expression_code index site.base cell at in
      let last : List Instr = instr.Qubit cell numbers (operand cell of) ∷ [] in
      let mid = at + expression_length index in
      gets_then code place p at cells mid cell to cell (InCell code place p cell) (NamedIn (qubit.Indexed register index) cell)
      (eval index site.base p.store)
      (λ i. and_then (place_in (length register) of i) (λ n. Ok (register_number site register n))) (omega arith)
      (gets_value code place p at cells mid cell (eval index site.base p.store)
      (expression_comes code place p site.base slots index fits cell at mid cells (stands_first code place at a last h) refl))
      (λ new i is holds kept.
      let v : Evaluated ℕ = and_then (place_in (length register) of i) (λ n. Ok (register_number site register n)) in
      let w : Evaluated ℕ = and_then (place_in (length numbers) of (new cell)) (λ n. Ok (nth_or 0 n numbers)) in
      let e : w ≡ v =
      ap (λ m. and_then (place_in m of (new cell)) (λ n. Ok (nth_or 0 n numbers))) (length_map (fixed_number site) register)
      ∙ ap (λ j. and_then (place_in (length register) of j) (λ n. Ok (nth_or 0 n numbers))) holds in
      gets_other code place p mid new to cell (InCell code place p cell) (NamedIn (qubit.Indexed register index) cell) v
      (λ newer x it there keeps. (
        there,
        indexed_tested x (newer cell) there
            (register_below register index x within (ap (λ u. and_then u (λ j. and_then (place_in (length register) of j) (λ n. Ok (register_number site register n)))) is ∙ it)),
      ))
      (gets_value code place p mid new to cell v
      (comes_written code place p mid new to cell v (omega (arith, t))
      (tail_at code mid (instr.Qubit cell numbers (operand cell of), place)
      (stands_behind code place at a last (expression_length index) (expression_long index site.base cell at).long h).0 new p
      ∙ ap (λ u. with_result u place (λ x. tail_with code p.fuel (suc mid) (with_cell cell x new)) p) e))))

  -- ---- all of them

  abbrev pub NamedAll : List TypedQubit → ℕ → List ℕ → Cells → Type 0
  NamedAll qs cell ns new =
      (map (λ r. named_by r new) (references_in qs site cell) ≡ ns)
      × (qubits_of code.qubits (references_in qs site cell) new ≡ all_tested site qs ns)

  pub qubits_get : (qs : List TypedQubit) → IndexesFit slots qs → All (QubitFits scope) qs → (cell at to : ℕ) (cells : Cells)
      → StandsAt code place at (qubits_code qs site cell at) → at + qubits_length qs ≡ to
      → Gets code place p (List ℕ) at cells to cell (NamedAll qs cell) (numbers_named site qs p.store)
  qubits_get [] fits within cell at to cells h t = gets_here code place p at cells to cell (NamedAll [] cell) [] (refl, refl) (omega (arith, t))
  qubits_get (q ∷ qs) fits within cell at to cells h t =
      let next = behind_qubit q cell in
      let mid = at + qubit_length q in
      let a = qubit_code q site cell at in
      let b = qubits_code qs site next mid in
      let r = reference_in q site cell in
      let rs = references_in qs site next in
      gets_then code place p at cells mid cell to cell (NamedIn q cell) (NamedAll (q ∷ qs) cell) (number_named site q p.store)
      (λ n. and_then (numbers_named site qs p.store) (λ ns. Ok (n ∷ ns))) (omega arith)
      (qubit_gets q fits.0 (all_first (QubitFits scope) q qs within) cell at mid cells (stands_first code place at a b h) refl)
      (λ new n is holds kept.
      gets_then code place p mid new to next to cell (NamedAll qs next) (NamedAll (q ∷ qs) cell) (numbers_named site qs p.store) (λ ns. Ok (n ∷ ns))
      (behind_later q cell)
      (qubits_get qs fits.1 (all_later (QubitFits scope) q qs within) next mid to new
      (stands_behind code place at a b (qubit_length q) (qubit_long q site cell at).long h) (omega (arith, t)))
      (λ newer ns it there keeps.
      let k = named_kept q site cell new newer keeps in
      gets_here code place p to newer to cell (NamedAll (q ∷ qs) cell) (n ∷ ns) (
        ap (λ x. x ∷ map (λ s. named_by s newer) rs) (k ∙ holds.0) ∙ ap (λ xs. n ∷ xs) there.0,
        ap (λ v. and_then v (λ m. and_then (qubits_of code.qubits rs newer) (λ ms. Ok (m ∷ ms)))) (tested_kept code.qubits r new newer k ∙ holds.1)
            ∙ ap (λ v. and_then (qubit_tested site q n) (λ m. and_then v (λ ms. Ok (m ∷ ms)))) there.1,
      ) refl))

-- ---- the test

work_or : (a b : Bool) → (a || b) ≡ false → b ≡ false
work_or true b e = absurd (cc)
work_or false b e = e

fixed_are : (n : ℕ) (rs : List QubitRef) (cells : Cells) → list_any is_work rs ≡ false → qubits_of n rs cells ≡ Ok (map (λ r. named_by r no_cells) rs)
fixed_are n [] cells e = refl
fixed_are n (reference.At q ∷ rs) cells e = ap (λ v. and_then v (λ ms. Ok (q ∷ ms))) (fixed_are n rs cells e)
fixed_are n (reference.Work cell ∷ rs) cells e = absurd (cc)

abbrev pub Stays : Cells → List ℕ → Cells → Type 0
Stays cells qs new = new ≡ cells

module _ (code : Parts) (place : Place) (p : Point) where
  distinct_gets : (rs : List QubitRef) (at to below : ℕ) (cells : Cells) (v : Evaluated (List ℕ)) → and_then (qubits_of code.qubits rs cells) different ≡ v
      → StandsAt code place at (instr.Distinct rs ∷ []) → suc at ≡ to → Gets code place p (List ℕ) at cells to below (Stays cells) v
  distinct_gets rs at to below cells (Ok qs) e h t = record {
    out = record {
      new = cells;
      holds = refl;
      kept = keeps_all below cells;
      same = tail_at code at (instr.Distinct rs, place) h.0 cells p ∙ ap (λ v. with_result v place (λ qs. tail_with code p.fuel (suc at) cells) p) e
          ∙ ap (λ n. tail code n cells p) t;
    };
  }
  distinct_gets rs at to below cells (Err fault) e h t = record {
    out = tail_at code at (instr.Distinct rs, place) h.0 cells p ∙ ap (λ v. with_result v place (λ qs. tail_with code p.fuel (suc at) cells) p) e;
  }

  test_gets_by : (b : Bool) (rs : List QubitRef) (at to below : ℕ) (cells : Cells) → list_any is_work rs ≡ b → FixedDiffer rs
      → StandsAt code place at (test_if b rs) → at + length (test_if b rs) ≡ to
      → Gets code place p (List ℕ) at cells to below (Stays cells) (and_then (qubits_of code.qubits rs cells) different)
  test_gets_by true rs at to below cells e d h t =
      distinct_gets rs at to below cells (and_then (qubits_of code.qubits rs cells) different) refl h (omega (arith, t))
  test_gets_by false rs at to below cells e d h t =
      let ns = map (λ r. named_by r no_cells) rs in
      gets_same code place p at cells to below (Stays cells) (Ok ns) (and_then (qubits_of code.qubits rs cells) different)
      (sym (ap (λ v. and_then v different) (fixed_are code.qubits rs cells e) ∙ ap (λ b. if b then Err SameQubit else Ok ns) (d e)))
      (gets_here code place p at cells to below (Stays cells) ns refl (omega (arith, t)))

  pub test_gets : (rs : List QubitRef) (at to below : ℕ) (cells : Cells) → FixedDiffer rs
      → StandsAt code place at (test_code rs) → at + length (test_code rs) ≡ to
      → Gets code place p (List ℕ) at cells to below (Stays cells) (and_then (qubits_of code.qubits rs cells) different)
  test_gets rs at to below cells d h t = test_gets_by (list_any is_work rs) rs at to below cells refl d h t
