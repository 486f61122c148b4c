-- How a run goes on from an instruction of flat code: what stands there is done, and then follows what stands behind it or where it jumps
-- to. A jump ahead, or back to a Tick, is the same as what it goes to.
use mathlib.Core.Path.{fun_ext}
use Rattle.std.proofs.Common.{◌≡◌, ℕ, zero, suc, ◌+◌, ◌-◌, ◌<◌, ◌≤◌, Bool, true, false, nat_lt, Some, List, [], ◌∷◌, slice_get, refl, sym, ap, ◌∙◌, arith, zero-add}
use Rattle.std.proofs.lemmas.Bool.{ltb-true, lt-ltb, le-ltb}
use Rattle.qt_tree.specs.declared.place.Place.{Place}
use Rattle.qt_meaning.specs.Points.{Point, Run, choose, spend}
use Rattle.qt_meaning.specs.Values.{is_true}
use Rattle.qt_instructions.specs.declared.instruction.Instr.{Instr}
use Rattle.qt_instructions.specs.declared.instruction.Instr.TheVariants as instr
use Rattle.qt_instructions.specs.declared.parts.Parts.{Parts}
use Rattle.qt_code.specs.Cells.{Cells}
use Rattle.qt_code.specs.Tail.{Next, act, goes, exec, lines, spent, tail}

abbrev pub Line : Type 0
Line = Instr × Place

-- a jump from an instruction with the number `at`, where the instructions from the number n on are still there
abbrev pub jump_in : Parts → (ℕ → Next) → List Line → ℕ → ℕ → ℕ → Next
jump_in code tk xs n at t = goes (nat_lt at t) (exec code tk xs n (t - n)) (tk (suc t))

-- ---- one instruction

some_is : (a b : Line) → Some a ≡ Some b → a ≡ b
some_is a b e = cc

jump_same : (code : Parts) (tk : ℕ → Next) (x : Line) (xs : List Line) (at n t : ℕ) → n ≤ at
    → jump_in code tk xs (suc n) at t ≡ jump_in code tk (x ∷ xs) n at t
jump_same code tk x xs at n t le = way (nat_lt at t) refl
  where
    way : (b : Bool) → nat_lt at t ≡ b
        → goes b (exec code tk xs (suc n) (t - suc n)) (tk (suc t)) ≡ goes b (exec code tk (x ∷ xs) n (t - n)) (tk (suc t))
    way false h = refl
    way true h =
        let lt = ltb-true at t h in
        let e : suc (t - suc n) ≡ t - n = omega arith in
        ap (exec code tk (x ∷ xs) n) e

jumps_same : (code : Parts) (tk : ℕ → Next) (x : Line) (xs : List Line) (at n : ℕ) → n ≤ at
    → jump_in code tk xs (suc n) at ≡ jump_in code tk (x ∷ xs) n at
jumps_same code tk x xs at n le = fun_ext (λ t. jump_same code tk x xs at n t le)

exec_at : (code : Parts) (tk : ℕ → Next) (xs : List Line) (n at : ℕ) (l : Line) → slice_get xs at ≡ Some l → (cells : Cells) (p : Point)
    → exec code tk xs n at cells p ≡ act code tk l.1 l.0 (n + at) (exec code tk xs n (suc at)) (jump_in code tk xs n (n + at)) cells p
exec_at code tk [] n at l h cells p = cc
exec_at code tk (x ∷ xs) n zero l h cells p =
    let m : n ≡ n + 0 = omega arith in
    ap (λ (j : Line). act code tk j.1 j.0 n (exec code tk xs (suc n) 0) (jump_in code tk xs (suc n) n) cells p) (some_is x l h)
    ∙ ap (λ r. act code tk l.1 l.0 n (exec code tk xs (suc n) 0) r cells p) (jumps_same code tk x xs n n (omega arith))
    ∙ ap (λ a. act code tk l.1 l.0 a (exec code tk xs (suc n) 0) (jump_in code tk (x ∷ xs) n a) cells p) m
exec_at code tk (x ∷ xs) n (suc at) l h cells p =
    let m : suc n + at ≡ n + suc at = omega arith in
    exec_at code tk xs (suc n) at l h cells p
    ∙ ap (λ r. act code tk l.1 l.0 (suc n + at) (exec code tk xs (suc n) (suc at)) r cells p)
    (jumps_same code tk x xs (suc n + at) n (omega arith))
    ∙ ap (λ a. act code tk l.1 l.0 a (exec code tk xs (suc n) (suc at)) (jump_in code tk (x ∷ xs) n a) cells p) m

-- from an instruction, with the fuel apart from the point
abbrev pub tail_with : Parts → ℕ → ℕ → Next
tail_with code fuel at cells p = exec code (spent code fuel) (lines code) 0 at cells p

abbrev pub jump_with : Parts → ℕ → ℕ → ℕ → Next
jump_with code fuel at t = goes (nat_lt at t) (tail_with code fuel t) (spent code fuel (suc t))

jump_whole : (code : Parts) (fuel at t : ℕ) → jump_in code (spent code fuel) (lines code) 0 at t ≡ jump_with code fuel at t
jump_whole code fuel at t =
    let e : t - 0 ≡ t = omega arith in
    ap (λ n. goes (nat_lt at t) (tail_with code fuel n) (spent code fuel (suc t))) e

jumps_whole : (code : Parts) (fuel at : ℕ) → jump_in code (spent code fuel) (lines code) 0 at ≡ jump_with code fuel at
jumps_whole code fuel at = fun_ext (jump_whole code fuel at)

pub tail_at : (code : Parts) (at : ℕ) (l : Line) → slice_get (lines code) at ≡ Some l → (cells : Cells) (p : Point)
    → tail code at cells p ≡ act code (spent code p.fuel) l.1 l.0 at (tail_with code p.fuel (suc at)) (jump_with code p.fuel at) cells p
tail_at code at l h cells p =
    exec_at code (spent code p.fuel) (lines code) 0 at l h cells p
    ∙ ap (λ r. act code (spent code p.fuel) l.1 l.0 (0 + at) (tail_with code p.fuel (suc at)) r cells p) (jumps_whole code p.fuel (0 + at))
    ∙ ap (λ a. act code (spent code p.fuel) l.1 l.0 a (tail_with code p.fuel (suc at)) (jump_with code p.fuel a) cells p) (zero-add at)

-- ---- Ticks and jumps

by_fuel : (code : Parts) (at : ℕ) (cells : Cells) (p : Point) (f : ℕ)
    → spent code f at cells (record p { fuel = f }) ≡ spend (tail code at cells) (record p { fuel = f })
by_fuel code at cells p zero = refl
by_fuel code at cells p (suc f) = refl

pub tick_at : (code : Parts) (at : ℕ) (place : Place) → slice_get (lines code) at ≡ Some (instr.Tick, place) → (cells : Cells) (p : Point)
    → tail code at cells p ≡ spend (tail code (suc at) cells) p
tick_at code at place h cells p = tail_at code at (instr.Tick, place) h cells p ∙ by_fuel code (suc at) cells p p.fuel

-- a jump from an instruction to another is the same as what follows from that
pub record Goes (code : Parts) (at to : ℕ) : Type 0 where
  pub on : (fuel : ℕ) (cells : Cells) (p : Point) → p.fuel ≡ fuel → jump_with code fuel at to cells p ≡ tail code to cells p

pub goes_ahead : (code : Parts) (at to : ℕ) → at < to → Goes code at to
goes_ahead code at to h = record {
  on = λ f cells p e.
      ap (λ b. goes b (tail_with code f to) (spent code f (suc to)) cells p) (lt-ltb at to h)
      ∙ ap (λ g. tail_with code g to cells p) (sym e);
}

pub goes_back : (code : Parts) (at to : ℕ) (place : Place) → to ≤ at → slice_get (lines code) to ≡ Some (instr.Tick, place)
    → Goes code at to
goes_back code at to place h g = record {
  on = λ f cells p e.
      ap (λ b. goes b (tail_with code f to) (spent code f (suc to)) cells p) (le-ltb at to h)
      ∙ ap (λ n. spent code n (suc to) cells p) (sym e)
      ∙ sym (tail_at code to (instr.Tick, place) g cells p);
}

pub jump_at : (code : Parts) (at to : ℕ) (place : Place) → slice_get (lines code) at ≡ Some (instr.Jump to, place) → Goes code at to
    → (cells : Cells) (p : Point) → tail code at cells p ≡ tail code to cells p
jump_at code at to place h way cells p = tail_at code at (instr.Jump to, place) h cells p ∙ way.on p.fuel cells p refl

choose_same : (b : Bool) (v w v' w' : Run) (p : Point) → v p ≡ v' p → w p ≡ w' p → choose b v w p ≡ choose b v' w' p
choose_same true v w v' w' p e g = e
choose_same false v w v' w' p e g = g

pub jump_if_at : (code : Parts) (at cell to : ℕ) (place : Place) → slice_get (lines code) at ≡ Some (instr.JumpIf cell to, place)
    → Goes code at to → (cells : Cells) (p : Point)
    → tail code at cells p ≡ choose (is_true (cells cell)) (tail code to cells) (tail code (suc at) cells) p
jump_if_at code at cell to place h way cells p =
    tail_at code at (instr.JumpIf cell to, place) h cells p
    ∙ choose_same (is_true (cells cell)) (jump_with code p.fuel at to cells) (tail_with code p.fuel (suc at) cells)
    (tail code to cells) (tail code (suc at) cells) p (way.on p.fuel cells p refl) refl
