-- What is known of the forms with names, by induction on the number of levels.
use Rattle.std.proofs.Common.{ℕ, zero, suc}
use Rattle.qt_grammar.specs.Spelling.{ReadsTo}
use Rattle.qt_round_trip.proofs.reparsing.Streams.{Streams}
use Rattle.qt_round_trip.proofs.reparsing.Setting.{Setting, Names}
use Rattle.qt_round_trip.proofs.reparsing.Expressions.{factor-again, expression-again, expressions-again}
use Rattle.qt_round_trip.proofs.reparsing.Indexes.{range_form-again, index_form-again, in_sizeof_rule-again}
use Rattle.qt_round_trip.proofs.reparsing.Statements.{block_rule-again, single_rule-again}
use Rattle.qt_round_trip.proofs.reparsing.Items.{entry_rule-again, in_array_rule-again, parameters_rule-again}
use Rattle.qt_round_trip.proofs.reparsing.Programs.{gate_block_rule-again}

module _ (z : Streams) (cap : ℕ) where
  pub names_at : (d : ℕ) → Names z (ReadsTo z.old cap d) (ReadsTo z.new cap d)
  names_at zero = record {
    any_ = λ o. record { again = λ i v j h. absurd h };
    unary_ = λ o. record { again = λ i v j h. absurd h };
    block_ = λ o. record { again = λ i v j h. absurd h };
    single_ = λ o. record { again = λ i v j h. absurd h };
    index_ = λ o. record { again = λ i v j h. absurd h };
    range_ = λ o. record { again = λ i v j h. absurd h };
    set_ = λ o. record { again = λ i v j h. absurd h };
    entry_ = λ o. record { again = λ i v j h. absurd h };
    in_sizeof_ = λ o. record { again = λ i v j h. absurd h };
    in_array_ = λ o. record { again = λ i v j h. absurd h };
    parameters_ = λ o. record { again = λ i v j h. absurd h };
    gate_block_ = λ o. record { again = λ i v j h. absurd h };
  }
  names_at (suc d) =
      let s : Setting = record { streams = z; cap = cap; old = ReadsTo z.old cap d; new = ReadsTo z.new cap d; names = names_at d } in
      record {
        any_ = λ o. (expression-again s o).reads;
        unary_ = λ o. (factor-again s o).reads;
        block_ = λ o. (block_rule-again s o).reads;
        single_ = λ o. (single_rule-again s o).reads;
        index_ = λ o. (index_form-again s o).reads;
        range_ = λ o. (range_form-again s o).reads;
        set_ = λ o. (expressions-again s o).reads;
        entry_ = λ o. (entry_rule-again s o).reads;
        in_sizeof_ = λ o. (in_sizeof_rule-again s o).reads;
        in_array_ = λ o. (in_array_rule-again s o).reads;
        parameters_ = λ o. (parameters_rule-again s o).reads;
        gate_block_ = λ o. (gate_block_rule-again s o).reads;
      }
