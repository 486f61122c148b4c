-- Operands, targets, right sides, and calls of gates.
use Rattle.std.proofs.Common.{◌≡◌, ℕ, List, [], ◌∷◌, ◌++◌, Option, codes, refl}
use Rattle.qt_tree.specs.declared.statement.GateCall.{GateCall}
use Rattle.qt_tree.specs.declared.statement.CalledGate.TheVariants as g
use Rattle.qt_tree.specs.declared.statement.Right.TheVariants as r
use Rattle.qt_tree.specs.declared.statement.Modifier.TheVariants as m
use Rattle.qt_terminals.specs.declared.terminal.Terminal.TheVariants as w
use Rattle.qt_grammar.specs.Sorts.{Value, expr, operand}
use Rattle.qt_grammar.specs.Language.{an_operand, operands, a_target, measured, a_right, first_value, a_modifier, phase_call, named_call, under, modified_call, gate_call}
use Rattle.qt_lexemes.specs.Lexemes.{Lexeme, keyword, operator}
use Rattle.qt_print.specs.Statements.{operand_lexemes, operands_lexemes, target_lexemes, right_lexemes, assigned, modifier_lexemes, gate_lexemes, call_lexemes}
use Rattle.qt_round_trip.proofs.reparsing.Setting.{Setting, Rereads}
use Rattle.qt_round_trip.proofs.reparsing.Forms.{form-lexeme, form-behind, form-before, form-maybe, form-some, form-or_none, form-tree, form-plain, form-pair, form-either, form-parens, form-brackets, form-commas}
use Rattle.qt_round_trip.proofs.reparsing.Named.{any-again, index-again}
use Rattle.qt_round_trip.proofs.reparsing.Literals.{label-again}
use Rattle.qt_round_trip.proofs.reparsing.Scalars.{arguments-again, all_indexes-again}
use Rattle.qt_round_trip.proofs.reparsing.Expressions.{expression-again}

-- a call without its modifiers
abbrev unmodified_lexemes : GateCall → List Lexeme
unmodified_lexemes it = gate_lexemes it.gate ++ operands_lexemes it.operands

module _ (s : Setting) (outer : Option ℕ) where
  pub operand-again : Rereads s outer an_operand operand_lexemes
  operand-again = form-plain (label-again s outer) (form-maybe (form-brackets (index-again s outer))) (λ name at. record { name = name; index = at }) operand_lexemes (λ x y. refl)

  pub operands-again : Rereads s outer operands operands_lexemes
  operands-again = form-commas operand-again

  pub target-again : Rereads s outer a_target target_lexemes
  target-again = form-plain (label-again s outer) (form-or_none (all_indexes-again s outer) refl) (λ name at. record { name = name; brackets = at }) target_lexemes (λ x y. refl)

  pub measured-again : Rereads s outer measured (λ x. keyword (codes "measure") ∷ operand_lexemes x)
  measured-again = form-behind (keyword (codes "measure")) w.Measure refl operand-again

  pub right-again : Rereads s outer a_right right_lexemes
  right-again = form-either (form-tree measured-again r.Measure right_lexemes (λ x. refl)) (form-tree (expression-again s outer) r.Value right_lexemes (λ x. refl))

  pub first_value-again : Rereads s outer first_value assigned
  first_value-again = form-behind (operator (codes "=")) w.Assign refl right-again

  modifier-again : Rereads s outer a_modifier modifier_lexemes
  modifier-again = form-either (form-lexeme (keyword (codes "inv")) w.Inv refl m.Inv modifier_lexemes refl)
      (form-either (form-tree (form-behind (keyword (codes "pow")) w.Pow refl (form-parens (any-again s outer))) m.Pow modifier_lexemes (λ x. refl))
      (form-either (form-tree (form-behind (keyword (codes "ctrl")) w.Ctrl refl (form-maybe (form-parens (any-again s outer)))) m.Ctrl modifier_lexemes (λ x. refl))
      (form-tree (form-behind (keyword (codes "negctrl")) w.NegCtrl refl (form-maybe (form-parens (any-again s outer)))) m.NegCtrl modifier_lexemes (λ x. refl))))

  -- a call without modifiers, by any lexemes of it that leave them out or have none
  phase-again : (lexemes : GateCall → List Lexeme) → ((x : Value expr) (xs : List (Value operand)) → lexemes (record { modifiers = []; gate = g.GlobalPhase x; operands = xs }) ≡ unmodified_lexemes (record { modifiers = []; gate = g.GlobalPhase x; operands = xs })) → Rereads s outer phase_call lexemes
  phase-again lexemes e = form-tree (form-behind (keyword (codes "gphase")) w.GPhase refl (form-pair (form-parens (any-again s outer)) (form-or_none operands-again refl)))
      (λ c. record { modifiers = []; gate = g.GlobalPhase c.0; operands = c.1 }) lexemes (λ c. e c.0 c.1)

  named-again : (lexemes : GateCall → List Lexeme) → ((text : List ℕ) (xs : Option (List (Value expr))) (qs : List (Value operand)) → lexemes (record { modifiers = []; gate = g.Named text xs; operands = qs }) ≡ unmodified_lexemes (record { modifiers = []; gate = g.Named text xs; operands = qs })) → Rereads s outer named_call lexemes
  named-again lexemes e = form-tree (form-pair (label-again s outer) (form-pair (form-maybe (arguments-again s outer)) operands-again))
      (λ c. record { modifiers = []; gate = g.Named c.0 c.1.0; operands = c.1.1 }) lexemes (λ c. e c.0 c.1.0 c.1.1)

  pub phase_call-again : Rereads s outer phase_call call_lexemes
  phase_call-again = phase-again call_lexemes (λ x xs. refl)

  pub modified_call-again : Rereads s outer modified_call call_lexemes
  modified_call-again = form-plain (form-some (form-before (operator (codes "@")) w.At refl modifier-again)) (form-either (phase-again unmodified_lexemes (λ x xs. refl)) (named-again unmodified_lexemes (λ text xs qs. refl))) under call_lexemes (λ ms c. refl)

  pub gate_call-again : Rereads s outer gate_call call_lexemes
  gate_call-again = form-either modified_call-again (form-either phase_call-again (named-again call_lexemes (λ text xs qs. refl)))
