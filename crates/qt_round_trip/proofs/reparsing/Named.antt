-- The forms with names, each by what is known of it.
use Rattle.std.proofs.Common.{◌≡◌, ℕ, Option}
use Rattle.qt_grammar.specs.Sorts.{any, unary, block, single, an_index, a_range, a_set, an_entry, in_sizeof, in_array, parameters, gate_block}
use Rattle.qt_grammar.specs.Form.{named}
use Rattle.qt_print.specs.Expressions.{expr_lexemes, index_lexemes, range_lexemes, list_lexemes}
use Rattle.qt_round_trip.proofs.lexemes.NamedForms.{entries_lexemes, all_parameters_lexemes, in_sizeof_lexemes, in_array_lexemes}
use Rattle.qt_round_trip.proofs.reparsing.Again.{Any}
use Rattle.qt_round_trip.proofs.reparsing.Setting.{Setting, Reader, Rereads, NoElse, SameStatements, SameGateLines, statements_lexemes, gate_lines_lexemes}

module _ (s : Setting) (outer : Option ℕ) where
  pub any-again : Rereads s outer (named any) expr_lexemes
  any-again = record { reads = s.names.any_ outer }

  pub unary-again : Rereads s outer (named unary) expr_lexemes
  unary-again = record { reads = s.names.unary_ outer }

  pub block-again : Reader s outer (named block) (named block) (λ xs l. statements_lexemes xs ≡ l) SameStatements (NoElse s.streams)
  block-again = record { reads = s.names.block_ outer }

  -- a statement as a body is read again between braces
  pub single-again : Reader s outer (named single) (named block) (λ xs l. statements_lexemes xs ≡ l) SameStatements (NoElse s.streams)
  single-again = record { reads = s.names.single_ outer }

  pub index-again : Rereads s outer (named an_index) index_lexemes
  index-again = record { reads = s.names.index_ outer }

  pub range-again : Rereads s outer (named a_range) range_lexemes
  range-again = record { reads = s.names.range_ outer }

  pub set-again : Rereads s outer (named a_set) list_lexemes
  set-again = record { reads = s.names.set_ outer }

  pub entry-again : Rereads s outer (named an_entry) entries_lexemes
  entry-again = record { reads = s.names.entry_ outer }

  pub in_sizeof-again : Rereads s outer (named in_sizeof) in_sizeof_lexemes
  in_sizeof-again = record { reads = s.names.in_sizeof_ outer }

  pub in_array-again : Rereads s outer (named in_array) in_array_lexemes
  in_array-again = record { reads = s.names.in_array_ outer }

  pub parameters-again : Rereads s outer (named parameters) all_parameters_lexemes
  parameters-again = record { reads = s.names.parameters_ outer }

  pub gate_block-again : Reader s outer (named gate_block) (named gate_block) (λ xs l. gate_lines_lexemes xs ≡ l) SameGateLines Any
  gate_block-again = record { reads = s.names.gate_block_ outer }
