-- The forms with names, level by level, and the two laws: each printed lexeme is spelled, and the text isn't long.
use Rattle.std.proofs.Common.{ℕ, zero, suc, ◌+◌, ◌*◌, ◌≤◌, None, refl, arith}
use Rattle.qt_tree.specs.declared.program.Program.{Program}
use Rattle.qt_terminals.specs.Terminals.{PlacedTerminal}
use Rattle.qt_grammar.specs.Sorts.{Value, Name, sort, program, any, unary, block, single, an_index, a_range, a_set, an_entry, in_sizeof, in_array, parameters, gate_block}
use Rattle.qt_grammar.specs.Form.{named}
use Rattle.qt_grammar.specs.Language.{rule, whole}
use Rattle.qt_grammar.specs.Spelling.{ReadsTo, Spells}
use Rattle.qt_lexemes.specs.Lexemes.{comma}
use Rattle.qt_print.specs.Programs.{program_lines}
use Rattle.qt_round_trip.proofs.literals.Kept.{IsFaithful, AreNumbersAgain, total_length}
use Rattle.qt_round_trip.proofs.extent.Laws.{AreSpelled, IsShort}
use Rattle.qt_round_trip.proofs.extent.Costs.{Paid, lines_length}
use Rattle.qt_round_trip.proofs.extent.Combinators.{Setting, Pays, pays_as, pays_then, pays_pair, pays_optional}
use Rattle.qt_round_trip.proofs.extent.Tokens.{pays_fixed, pays_behind, pays_label}
use Rattle.qt_round_trip.proofs.extent.Lists.{pays_separated, row_behind}
use Rattle.qt_round_trip.proofs.extent.Expressions.{pays_scalar, pays_factor, pays_expression, pays_expressions, pays_range, pays_index}
use Rattle.qt_round_trip.proofs.extent.Bodies.{Named, pays_body_lines, pays_alone}
use Rattle.qt_round_trip.proofs.extent.Statements.{pays_statement}
use Rattle.qt_round_trip.proofs.extent.Items.{pays_entry, pays_gate_line, pays_parameter, pays_whole}

module _ (ts : ℕ → PlacedTerminal) (faithful : (i : ℕ) → IsFaithful (ts i)) (numbers : AreNumbersAgain) (cap : ℕ) where
  -- within so many levels
  abbrev at_level : ℕ → Setting
  at_level d = record { tokens = ts; faithful = faithful; numbers = numbers; cap = cap; level = d; reads = ReadsTo ts cap d }

  -- at no level is anything read
  none : (n : Name) {F : Value (sort n) → ℕ → Type 0} → Pays (at_level zero) (named n) F
  none n = record { pays = λ outer i v j r. absurd r }

  -- what holds of a form holds of its name, one level higher
  deeper : (d : ℕ) (n : Name) {F : Value (sort n) → ℕ → Type 0} → Pays (at_level d) (rule n) F → Pays (at_level (suc d)) (named n) F
  deeper d n a = record { pays = a.pays }

  levels : (d : ℕ) → Named (at_level d)
  levels zero = record {
    of_any = none any;
    of_unary = none unary;
    of_block = none block;
    of_single = none single;
    of_index = none an_index;
    of_range = none a_range;
    of_set = none a_set;
    of_entry = none an_entry;
    of_sizeof = none in_sizeof;
    of_array = none in_array;
    of_parameters = none parameters;
    of_gate_block = none gate_block;
  }
  levels (suc d) =
      let h = levels d in
      record {
        of_any = deeper d any (pays_expression h);
        of_unary = deeper d unary (pays_factor h);
        of_block = deeper d block (pays_body_lines (pays_statement h));
        of_single = deeper d single (pays_alone (pays_statement h));
        of_index = deeper d an_index (pays_index h);
        of_range = deeper d a_range (pays_range h);
        of_set = deeper d a_set (pays_as (pays_expressions h) (λ xs n p. p.fit));
        of_entry = deeper d an_entry (pays_separated comma refl (pays_entry h));
        of_sizeof = deeper d in_sizeof (pays_pair pays_label (pays_optional (pays_behind comma refl (pays_expression h))));
        of_array = deeper d in_array (pays_pair (pays_scalar h) (pays_then (pays_fixed comma refl) (pays_expressions h) (λ t xs m n p q. row_behind xs p q)));
        of_parameters = deeper d parameters (pays_separated comma refl (pays_parameter h));
        of_gate_block = deeper d gate_block (pays_body_lines (pays_gate_line h));
      }

  -- the lines of a program are spelled, stand in no more bodies than levels, and are paid by the bytes of its tokens
  printed : (d : ℕ) (p : Program) (j : ℕ) → Spells ts program whole None 0 (record { levels = d; operators = cap }) p j → (n : ℕ) × Paid d (program_lines p) (133 + n) × (n ≤ 500 * total_length ts j)
  printed d p j r = let a = (pays_whole (levels d)).pays None 0 p j r in (a.0, a.1, omega (arith, a.2))

pub spelled : AreSpelled
spelled ts faithful numbers l p (j, r) = (printed ts faithful numbers l.operators l.levels p j r).1.spelled

pub short : IsShort
short ts faithful numbers l p few (j, r) =
    let a = printed ts faithful numbers l.operators l.levels p j r in
    omega (arith, lines_length l.levels (program_lines p) few a.1.shallow, a.1.short, a.2)
