-- When two variables that are told are the same (OpenQASM 3.0 live specification, "Input/output").
use Rattle.std.specs.Prelude.{Bool, nat_eq}
use Rattle.std.specs.Cmp.{IsEquivalence, and_equiv, nat_eq_equiv, on_equiv}
use Rattle.std.specs.Cmp.Lexicographic.{nat_list_eq_equiv}
use Rattle.std.specs.Ordering.{on, eq_of_both}
use lib.Pointwise.{pointwise}
use Rattle.qt_value.specs.contracts.types.ValueTypeEq.TheImpl.Laws as kinds
use Rattle.qt_value.specs.contracts.types.ValueTypePartialEq.TheImpl as kind
use Rattle.qt_instructions.specs.declared.parts.Field.{Field}

-- their names, types, slots and lengths agree
abbrev pub same_field : Field → Field → Bool
same_field =
    eq_of_both (on (λ f. f.name) (pointwise nat_eq))
    (eq_of_both (on (λ f. f.kind) (kind.ghosts).eq)
    (eq_of_both (on (λ f. f.slot) nat_eq) (on (λ f. f.lengths) (pointwise nat_eq))))

-- as `==` asks for
pub same_field_equiv : IsEquivalence same_field
same_field_equiv =
    and_equiv (on_equiv (λ (f : Field). f.name) nat_list_eq_equiv)
    (and_equiv (on_equiv (λ (f : Field). f.kind) kinds.laws-law)
    (and_equiv (on_equiv (λ (f : Field). f.slot) nat_eq_equiv) (on_equiv (λ (f : Field). f.lengths) nat_list_eq_equiv)))
