-- How operators and truth values are written. OpenQASM 3.0 live specification, "Classical instructions", and its lexical grammar.
use Rattle.std.specs.Prelude.{ℕ, Bool, if◌then◌else◌, List, codes}
use Rattle.qt_tree.specs.declared.expression.InfixOperator.{InfixOperator}
use Rattle.qt_tree.specs.declared.expression.InfixOperator.TheVariants as b
use Rattle.qt_tree.specs.declared.expression.CompoundOperator.{CompoundOperator}
use Rattle.qt_tree.specs.declared.expression.CompoundOperator.TheVariants as c
use Rattle.qt_tree.specs.declared.expression.PrefixOperator.{PrefixOperator}
use Rattle.qt_tree.specs.declared.expression.PrefixOperator.TheVariants as u

-- an operator between its operands
abbrev pub operator_text : InfixOperator → List ℕ
operator_text b.LogicalOr = codes "||"
operator_text b.LogicalAnd = codes "&&"
operator_text b.Or = codes "|"
operator_text b.Xor = codes "^"
operator_text b.And = codes "&"
operator_text b.Eq = codes "=="
operator_text b.Ne = codes "!="
operator_text b.Lt = codes "<"
operator_text b.Le = codes "<="
operator_text b.Gt = codes ">"
operator_text b.Ge = codes ">="
operator_text b.Shl = codes "<<"
operator_text b.Shr = codes ">>"
operator_text b.Add = codes "+"
operator_text b.Sub = codes "-"
operator_text b.Mul = codes "*"
operator_text b.Div = codes "/"
operator_text b.Rem = codes "%"
operator_text b.Pow = codes "**"

-- the operator of a compound assignment, with its `=`
abbrev pub compound_text : CompoundOperator → List ℕ
compound_text c.Add = codes "+="
compound_text c.Sub = codes "-="
compound_text c.Mul = codes "*="
compound_text c.Div = codes "/="
compound_text c.Rem = codes "%="
compound_text c.Pow = codes "**="
compound_text c.And = codes "&="
compound_text c.Or = codes "|="
compound_text c.Xor = codes "^="
compound_text c.Shl = codes "<<="
compound_text c.Shr = codes ">>="

-- an operator before its operand
abbrev pub sign_text : PrefixOperator → List ℕ
sign_text u.Not = codes "!"
sign_text u.Turn = codes "~"
sign_text u.Neg = codes "-"

abbrev pub truth_text : Bool → List ℕ
truth_text value = if value then codes "true" else codes "false"
