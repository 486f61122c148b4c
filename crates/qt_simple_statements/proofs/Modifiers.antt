-- Modifiers of gate calls: the next terminal decides which is read.
use Rattle.std.proofs.Common.{◌≡◌, ℕ, ◌+◌, List, [], ◌∷◌, None, Ok, ◌∙◌, refl}
use Rattle.qt_tree.specs.declared.statement.Modifier.TheVariants as m
use Rattle.qt_terminals.specs.declared.terminal.Terminal.TheVariants as w
use Rattle.qt_terminals.specs.Terminals.{PlacedTerminal, stream}
use Rattle.qt_grammar.specs.Sorts.{token, expr, modifier, any}
use Rattle.qt_grammar.specs.Form.{Form, as_tree, named}
use Rattle.qt_grammar.specs.Outcome.{and_then}
use Rattle.qt_grammar.specs.Language.{◌⊳◌, exactly, parens, controls}
use Rattle.qt_expr.proofs.Alternatives.{DiffersFrom, none_of, alternative, last_alternative}
use Rattle.qt_simple_statements.specs.Parser.{read_modifier, read_exponent, read_controls}

-- the modifiers but for the last, `negctrl`
abbrev others : List (Form modifier)
others = as_tree {s = token} {t = modifier} (λ k. m.Inv) (exactly w.Inv) ∷ as_tree {s = expr} {t = modifier} m.Pow (exactly w.Pow ⊳ parens {s = expr} (named any)) ∷ controls w.Ctrl m.Ctrl ∷ []

abbrev last : Form modifier
last = controls w.NegCtrl m.NegCtrl

module _ (tokens : List PlacedTerminal) (levels at : ℕ) where
  pub inverse_is : (stream tokens at).terminal ≡ w.Inv → read_modifier tokens levels at ≡ Ok (m.Inv, at + 1)
  unfolding read_modifier
  inverse_is e = alternative tokens levels None at {s = modifier} others last 0 w.Inv e refl refl ∙ rw e refl

  pub power_is : (stream tokens at).terminal ≡ w.Pow → read_modifier tokens levels at ≡ and_then (read_exponent tokens levels at) (λ x j. Ok (m.Pow x, j))
  unfolding read_modifier read_exponent
  power_is e = alternative tokens levels None at {s = modifier} others last 1 w.Pow e refl refl

  pub control_is : (stream tokens at).terminal ≡ w.Ctrl → read_modifier tokens levels at ≡ and_then (read_controls tokens w.Ctrl levels at) (λ x j. Ok (m.Ctrl x, j))
  unfolding read_modifier read_controls
  control_is e = alternative tokens levels None at {s = modifier} others last 2 w.Ctrl e refl refl

  pub negated_control_is : DiffersFrom ((stream tokens at).terminal) (w.Inv ∷ w.Pow ∷ w.Ctrl ∷ []) → read_modifier tokens levels at ≡ and_then (read_controls tokens w.NegCtrl levels at) (λ x j. Ok (m.NegCtrl x, j))
  unfolding read_modifier read_controls
  negated_control_is apart = last_alternative tokens levels None at {s = modifier} others last (none_of ((stream tokens at).terminal) (w.Inv ∷ w.Pow ∷ w.Ctrl ∷ []) apart)
