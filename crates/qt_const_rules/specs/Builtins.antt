-- The functions of the language on values: OpenQASM 3.0 live specification, "Built-in constant expression functions"; Cross et al. 2022.
-- A call has their meaning where no name hides them.
use Rattle.std.specs.Prelude.{ℕ, codes, nat_eq, if◌then◌else◌, List, Option, Some, None}
use Rattle.std.specs.Cmp.Lexicographic.{pointwise}
use Rattle.qt_const_rules.specs.declared.builtins.Builtin.{Builtin}
use Rattle.qt_const_rules.specs.declared.builtins.Builtin.TheVariants as builtin

abbrev pub builtin_of : List ℕ → Option Builtin
builtin_of name =
    if pointwise nat_eq name (codes "popcount") then Some builtin.Popcount else
    if pointwise nat_eq name (codes "rotl") then Some builtin.Rotl else
    if pointwise nat_eq name (codes "rotr") then Some builtin.Rotr else
    None
