-- Each form of operands, targets, right sides and gate calls.
use Rattle.std.proofs.Common.{◌≡◌, ℕ, List, [], ◌∷◌, ◌++◌, map, codes, refl, ap}
use Rattle.qt_tree.specs.declared.statement.GateCall.{GateCall}
use Rattle.qt_grammar.specs.Sorts.{operand}
use Rattle.qt_grammar.specs.Language.{an_operand, operands, or_none, a_target, measured, a_right, first_value, a_modifier, phase_call, named_call, modified_call, gate_call, a_sequence}
use Rattle.qt_lexemes.specs.Lexemes.{Lexeme, keyword, operator, comma, joined}
use Rattle.qt_print.specs.Statements.{operand_lexemes, operands_lexemes, target_lexemes, right_lexemes, assigned, modifier_lexemes, modifying, gate_lexemes, call_lexemes, sequence_lexemes}
use Rattle.qt_round_trip.proofs.extent.Costs.{Fit, fit_both, fit_is}
use Rattle.qt_round_trip.proofs.extent.Combinators.{Setting, Pays, Of, pays_as, pays_tree, pays_either, pays_then, pays_lexemes, pays_made, pays_pair, pays_optional}
use Rattle.qt_round_trip.proofs.extent.Tokens.{pays_fixed, pays_behind, pays_before, pays_parens, pays_brackets, pays_label}
use Rattle.qt_round_trip.proofs.extent.Lists.{pays_separated, pays_some, pays_or_none}
use Rattle.qt_round_trip.proofs.extent.Bodies.{Named}
use Rattle.qt_round_trip.proofs.extent.Expressions.{pays_arguments, pays_all_indexes, pays_expression, pays_set}

-- a call without its modifiers
abbrev plain_lexemes : GateCall → List Lexeme
plain_lexemes it = gate_lexemes it.gate ++ operands_lexemes it.operands

-- a call that has no modifiers
record Plain (it : GateCall) (n : ℕ) : Type 0 where
  unmodified : it.modifiers ≡ []
  fit : Fit (plain_lexemes it) n

plain_call : (it : GateCall) (n : ℕ) → Plain it n → Fit (call_lexemes it) n
plain_call it n p = fit_is (ap (λ all. joined (map modifying all) ++ plain_lexemes it) p.unmodified) p.fit

module _ {z : Setting} (h : Named z) where
  pub pays_operand : Pays z an_operand (Of operand_lexemes)
  pays_operand = pays_lexemes pays_label (pays_optional (pays_brackets h.of_index)) (λ text at. refl)

  pub pays_operands : Pays z operands (Of operands_lexemes)
  pays_operands = pays_separated comma refl pays_operand

  pub pays_any_operands : Pays z (or_none {s = operand} operands) (Of operands_lexemes)
  pays_any_operands = pays_or_none refl pays_operands

  pub pays_target : Pays z a_target (Of target_lexemes)
  pays_target = pays_lexemes pays_label (pays_or_none refl (pays_all_indexes h)) (λ text at. refl)

  pub pays_measured : Pays z measured (Of (λ qubits. keyword (codes "measure") ∷ operand_lexemes qubits))
  pays_measured = pays_behind (keyword (codes "measure")) refl pays_operand

  pub pays_right : Pays z a_right (Of right_lexemes)
  pays_right = pays_either (pays_made pays_measured (λ qubits. refl)) (pays_made (pays_expression h) (λ x. refl))

  pub pays_first_value : Pays z first_value (Of assigned)
  pays_first_value = pays_behind (operator (codes "=")) refl pays_right

  -- ---- gate calls

  pays_modifier : Pays z a_modifier (Of modifier_lexemes)
  pays_modifier = pays_either (pays_made (pays_fixed (keyword (codes "inv")) refl) (λ t. refl))
      (pays_either (pays_made (pays_behind (keyword (codes "pow")) refl (pays_parens h.of_any)) (λ x. refl))
      (pays_either (pays_made (pays_behind (keyword (codes "ctrl")) refl (pays_optional (pays_parens h.of_any))) (λ x. refl))
      (pays_made (pays_behind (keyword (codes "negctrl")) refl (pays_optional (pays_parens h.of_any))) (λ x. refl))))

  plain_phase_call : Pays z phase_call Plain
  plain_phase_call = pays_tree (pays_behind (keyword (codes "gphase")) refl (pays_pair (pays_parens h.of_any) pays_any_operands)) (λ c n p. record { unmodified = refl; fit = p })

  plain_named_call : Pays z named_call Plain
  plain_named_call = pays_tree (pays_pair pays_label (pays_pair (pays_optional (pays_arguments h)) pays_operands)) (λ c n p. record { unmodified = refl; fit = p })

  pub pays_phase_call : Pays z phase_call (Of call_lexemes)
  pays_phase_call = pays_as plain_phase_call plain_call

  pub pays_modified_call : Pays z modified_call (Of call_lexemes)
  pays_modified_call = pays_then (pays_some (pays_before {x = modifier_lexemes} (operator (codes "@")) refl pays_modifier)) (pays_either plain_phase_call plain_named_call) (λ all it m n p q. fit_both p q.fit)

  pub pays_gate_call : Pays z gate_call (Of call_lexemes)
  pays_gate_call = pays_either pays_modified_call (pays_either pays_phase_call (pays_as plain_named_call plain_call))

  -- what stands behind `in`
  pub pays_sequence : Pays z a_sequence (Of sequence_lexemes)
  pays_sequence = pays_either (pays_made (pays_brackets h.of_range) (λ x. refl)) (pays_either (pays_made (pays_set h) (λ x. refl)) (pays_made pays_label (λ x. refl)))
