-- What a token stream keeps: the terminals of its tokens and their counts of operators. These definitions serve the contracts
-- inside this crate.
use Rattle.std.specs.Prelude.{ℕ, List, [], ◌∷◌}
use Rattle.qt_lex.specs.declared.tokens.Token.{Token}
use Rattle.qt_terminals.specs.declared.terminal.Terminal.{Terminal}
use Rattle.qt_terminals.specs.Terminals.{PlacedTerminal, spelling_of, behind}

-- a token with its terminal and its count
abbrev pub found : List ℕ → Token → Terminal → ℕ → PlacedTerminal
found text token terminal n = record { terminal = terminal; spelling = spelling_of text token; place = token.place; operators = n }

abbrev pub all_found : List ℕ → List Token → List Terminal → List ℕ → List PlacedTerminal
all_found text (t ∷ ts) (w ∷ ws) (n ∷ ns) = found text t w n ∷ all_found text ts ws ns
all_found text ts ws ns = []

-- how many operators stand before each terminal, where n stand before the first
abbrev pub counts_behind : ℕ → List Terminal → List ℕ
counts_behind n [] = []
counts_behind n (w ∷ ws) = n ∷ counts_behind (behind n w) ws
