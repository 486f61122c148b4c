-- Lines and columns stay small.
use Rattle.std.proofs.Common.{ℕ, zero, suc, ◌+◌, ◌≤◌, Bool, true, false, ◌&&◌, eqb, leb, cond, arith}
use Rattle.qt_lex.specs.Tokens.{line_of, column_of}

module _ (b : ℕ → ℕ) where
  pub line_small : (i : ℕ) → line_of b i ≤ i + 1
  line_small zero = omega arith
  line_small (suc i) = at_test (eqb (b i) 10) (line_small i)
    where
      at_test : (v : Bool) → line_of b i ≤ i + 1 → cond v (line_of b i + 1) (line_of b i) ≤ suc i + 1
      at_test true h = omega (arith, h)
      at_test false h = omega (arith, h)

  pub column_small : (i : ℕ) → column_of b i ≤ i + 1
  column_small zero = omega arith
  column_small (suc i) = at_test (eqb (b i) 10) (leb 128 (b i) && leb (b i) 191) (column_small i)
    where
      at_test : (v w : Bool) → column_of b i ≤ i + 1 → cond v 1 (cond w (column_of b i) (column_of b i + 1)) ≤ suc i + 1
      at_test true w h = omega (arith, h)
      at_test false true h = omega (arith, h)
      at_test false false h = omega (arith, h)
