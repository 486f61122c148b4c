-- The tests of the whole grammar, by computing: no two words compete, and the tables of the forms with names are theirs.
use Rattle.std.proofs.Common.{◌≡◌, true, not, refl}
use Rattle.qt_grammar.specs.Sorts.{Name, any, unary, block, single, an_index, a_range, a_set, an_entry, in_sizeof, in_array, parameters, gate_block}
use Rattle.qt_grammar.specs.Language.{rule, whole, expression}
use Rattle.qt_grammar.specs.Lookahead.{first, nullable, first_of}
use Rattle.qt_grammar.proofs.LookaheadTests.{subset, follow, follow_of, good, direct}

pub tested : (n : Name) → good (rule n) ≡ true
tested any = refl
tested unary = refl
tested block = refl
tested single = refl
tested an_index = refl
tested a_range = refl
tested a_set = refl
tested an_entry = refl
tested in_sizeof = refl
tested in_array = refl
tested parameters = refl
tested gate_block = refl

pub solid_rule : (n : Name) → not (nullable (rule n)) ≡ true
solid_rule any = refl
solid_rule unary = refl
solid_rule block = refl
solid_rule single = refl
solid_rule an_index = refl
solid_rule a_range = refl
solid_rule a_set = refl
solid_rule an_entry = refl
solid_rule in_sizeof = refl
solid_rule in_array = refl
solid_rule parameters = refl
solid_rule gate_block = refl

pub first_rule : (n : Name) → subset (first (rule n)) (first_of n) ≡ true
first_rule any = refl
first_rule unary = refl
first_rule block = refl
first_rule single = refl
first_rule an_index = refl
first_rule a_range = refl
first_rule a_set = refl
first_rule an_entry = refl
first_rule in_sizeof = refl
first_rule in_array = refl
first_rule parameters = refl
first_rule gate_block = refl

pub rule_first : (n : Name) → subset (first_of n) (first (rule n)) ≡ true
rule_first any = refl
rule_first unary = refl
rule_first block = refl
rule_first single = refl
rule_first an_index = refl
rule_first a_range = refl
rule_first a_set = refl
rule_first an_entry = refl
rule_first in_sizeof = refl
rule_first in_array = refl
rule_first parameters = refl
rule_first gate_block = refl

pub follow_rule : (n : Name) → subset (follow (rule n)) (follow_of n) ≡ true
follow_rule any = refl
follow_rule unary = refl
follow_rule block = refl
follow_rule single = refl
follow_rule an_index = refl
follow_rule a_range = refl
follow_rule a_set = refl
follow_rule an_entry = refl
follow_rule in_sizeof = refl
follow_rule in_array = refl
follow_rule parameters = refl
follow_rule gate_block = refl

pub direct_rule : (n : Name) → direct (rule n) ≡ true
direct_rule any = refl
direct_rule unary = refl
direct_rule block = refl
direct_rule single = refl
direct_rule an_index = refl
direct_rule a_range = refl
direct_rule a_set = refl
direct_rule an_entry = refl
direct_rule in_sizeof = refl
direct_rule in_array = refl
direct_rule parameters = refl
direct_rule gate_block = refl

pub tested_whole : good whole ≡ true
tested_whole = refl

pub tested_expression : good expression ≡ true
tested_expression = refl
