-- Statements that end with a semicolon, of what is read before it.
use Rattle.std.proofs.Common.{◌≡◌, ℕ, List, None, Result, Ok, Err, refl, sym, ap}
use Rattle.qt_tree.specs.declared.statement.StatementForm.{StatementForm}
use Rattle.qt_terminals.specs.declared.terminal.Terminal.{Terminal}
use Rattle.qt_terminals.specs.declared.terminal.Terminal.TheVariants as w
use Rattle.qt_terminals.specs.Alphabet.{code}
use Rattle.qt_terminals.specs.Terminals.{PlacedTerminal, stream}
use Rattle.qt_grammar.specs.Sorts.{Sort, Value, form}
use Rattle.qt_grammar.specs.Form.{Form, as_tree}
use Rattle.qt_grammar.specs.declared.refusal.Refusal.{Refusal}
use Rattle.qt_grammar.specs.Outcome.{Outcome, Says, and_then}
use Rattle.qt_grammar.specs.Language.{◌⊳◌, exactly, ended}
use Rattle.qt_lookahead.specs.OneToken.{Ends, read_exactly}
use Rattle.qt_expr.specs.Parser.{reading}
use Rattle.qt_expr.specs.HandedOn.{then_token}
use Rattle.qt_expr.proofs.HandedOn.{says_then, closed_says, led_says}
use Rattle.qt_simple_statements.specs.Parser.{read_keyword, read_keyword_alone}

module _ (tokens : List PlacedTerminal) (levels at : ℕ) {s : Sort} (f : Form s) (make : Value s → StatementForm) where
  -- what was read is `found`, and that with its semicolon `finished`
  pub statement_says : (found finished : Outcome (Value s)) → Says (reading tokens levels f None at) found → finished ≡ then_token tokens (code w.Semicolon) found
      → Says (reading tokens levels (as_tree {s = s} {t = form} make (ended f)) None at) (and_then {A = Value s} {B = StatementForm} finished (λ x j. Ok (make x, j)))
  unfolding read_exactly
  statement_says found finished h e = rw e (says_then (then_token tokens (code w.Semicolon) (reading tokens levels f None at)) (then_token tokens (code w.Semicolon) found) (λ x j. Ok (make x, j)) (closed_says tokens (code w.Semicolon) (reading tokens levels f None at) found h))

  -- the same behind a keyword
  pub led_statement_says : (k : Terminal) (m : ℕ) (found finished : Outcome (Value s)) → read_exactly tokens (code k) at ≡ Ok (stream tokens at, m) → Says (reading tokens levels f None m) found → finished ≡ then_token tokens (code w.Semicolon) found
      → Says (reading tokens levels (as_tree {s = s} {t = form} make (ended (exactly k ⊳ f))) None at) (and_then {A = Value s} {B = StatementForm} finished (λ x j. Ok (make x, j)))
  unfolding read_exactly
  led_statement_says k m found finished opened h e =
      rw e (says_then (then_token tokens (code w.Semicolon) (reading tokens levels (exactly k ⊳ f) None at)) (then_token tokens (code w.Semicolon) found) (λ x j. Ok (make x, j))
      (closed_says tokens (code w.Semicolon) (reading tokens levels (exactly k ⊳ f) None at) found (led_says tokens levels None at f k m found opened h)))

-- a keyword and its semicolon
pub keyword_says : (tokens : List PlacedTerminal) (k : Terminal) (x : StatementForm) (at : ℕ) (r : Result (StatementForm × ℕ) Refusal) → Ends (read_keyword tokens k at) (stream tokens at) x r → Says (read_keyword_alone tokens k x at) r
unfolding read_keyword read_keyword_alone
keyword_says tokens k x at (Ok read) (p, q) = rw p (ap (λ y. Ok (y, read.1)) (sym q))
keyword_says tokens k x at (Err e) p = λ n. rw p refl
