-- Reading from the left, with one token of lookahead, within limits: so many levels of forms with names, and at most `cap`
-- operators in one expression that stands in no other. What is right to read is said in `Spelling` and `Promise`; this is how it is
-- read. Aho, Lam, Sethi and Ullman, "Compilers", section 4.4, predictive parsing.
use Rattle.std.specs.Prelude.{ℕ, zero, suc, ◌+◌, Bool, if◌then◌else◌, Option, Some, None, Ok, Err}
use Rattle.qt_grammar.specs.declared.refusal.Refusal.TheVariants.{Syntax, Nest}
use Rattle.qt_terminals.specs.Terminals.{PlacedTerminal}
use Rattle.qt_grammar.specs.Sorts.{Sort, Value, Name, sort}
use Rattle.qt_grammar.specs.Form.{Form, one, operator, counted, here, empty, as_tree, then_, either, maybe, nearest, chain, named, member, terminal_at, begun, within, pair_of, stepped}
use Rattle.qt_grammar.specs.Outcome.{Outcome, and_then, more_of}
use Rattle.qt_grammar.specs.Language.{rule}
use Rattle.qt_grammar.specs.Lookahead.{nullable, joined, first_of, first}

-- the rest of a chain: separators and operands, as long as the next token begins one
abbrev pub rest_of : {A B C : Type 0} → (ℕ → Bool) → (C → B → A → C) → (ℕ → Outcome A) → (ℕ → Outcome B) → ℕ → C → ℕ → Outcome C
rest_of begins b p q = more_of begins (stepped b) (λ i. and_then (q i) (λ y m. and_then (p m) (λ x j. Ok (pair_of y x, j))))

-- `ts i` is the token at place i, `cap` the limit on operators, and `turns` how often a chain goes on at most: the number of
-- tokens. `outer` is the number of operators that stand before the outermost expression round the place, None where there is
-- no such expression; it is an argument of `run` before the place. The limit on levels is the argument of `run_to`.
module _ (ts : ℕ → PlacedTerminal) (cap turns : ℕ) where
  module _ (run_named : (n : Name) → Option ℕ → ℕ → Outcome (Value (sort n))) where
    abbrev pub run : {s : Sort} → Form s → Option ℕ → ℕ → Outcome (Value s)
    run (one ws) outer i = if member (terminal_at ts i) ws then Ok (ts i, i + 1) else Err (Syntax i)
    run (operator ws) outer i = if member (terminal_at ts i) ws then if within cap outer ((ts i).operators) then Ok (ts i, i + 1) else Err (Nest i) else Err (Syntax i)
    run (counted f) outer i = run f (begun ts outer i) i
    run here outer i = Ok ((ts i).place, i)
    run (empty x) outer i = Ok (x, i)
    run (as_tree k f) outer i = and_then (run f outer i) (λ x j. Ok (k x, j))
    run (then_ k f g) outer i = and_then (run f outer i) (λ x m. and_then (run g outer m) (λ y j. Ok (k x y, j)))
    run (either f g) outer i = if member (terminal_at ts i) (first f) then run f outer i else run g outer i
    run (maybe f) outer i = if member (terminal_at ts i) (first f) then and_then (run f outer i) (λ x j. Ok (Some x, j)) else Ok (None, i)
    run (nearest ws f) outer i = if member (terminal_at ts i) ws then and_then (run f outer i) (λ x j. Ok (Some x, j)) else Ok (None, i)
    run (chain a b f g) outer i = and_then (run f outer i) (λ x m. rest_of (λ i. member (terminal_at ts i) (joined (first g) (nullable g) (first f))) b (run f outer) (run g outer) turns (a x) m)
    run (named n) outer i = run_named n outer i

  -- with so many levels
  abbrev pub run_to : ℕ → (n : Name) → Option ℕ → ℕ → Outcome (Value (sort n))
  run_to zero n outer i = if member (terminal_at ts i) (first_of n) then Err (Nest i) else Err (Syntax i)
  run_to (suc d) n outer i = run (run_to d) (rule n) outer i
