-- Pieces of code that stand one after another.
use Rattle.std.proofs.Common.{◌≡◌, ℕ, suc, ◌+◌, List, [], ◌∷◌, ◌++◌, length, refl, subst, arith}
use Rattle.qt_tree.specs.declared.place.Place.{Place}
use Rattle.qt_instructions.specs.declared.instruction.Instr.{Instr}
use Rattle.qt_instructions.specs.declared.parts.Parts.{Parts}
use Rattle.qt_flat_expressions.specs.Lands.{StandsAt}

pub stands_first : (code : Parts) (place : Place) (at : ℕ) (a b : List Instr) → StandsAt code place at (a ++ b) → StandsAt code place at a
stands_first code place at [] b h = tt
stands_first code place at (i ∷ a) b h = (h.0, stands_first code place (suc at) a b h.1)

pub stands_moved : (code : Parts) (place : Place) (at to : ℕ) (a : List Instr) → at ≡ to → StandsAt code place at a → StandsAt code place to a
stands_moved code place at to a e h = subst (λ n. StandsAt code place n a) e h

pub stands_behind : (code : Parts) (place : Place) (at : ℕ) (a b : List Instr) (n : ℕ) → length a ≡ n → StandsAt code place at (a ++ b)
    → StandsAt code place (at + n) b
stands_behind code place at [] b n len h = stands_moved code place at (at + n) b (omega (arith, len)) h
stands_behind code place at (i ∷ a) b n len h =
    stands_moved code place (suc at + length a) (at + n) b (omega (arith, len)) (stands_behind code place (suc at) a b (length a) refl h.1)
