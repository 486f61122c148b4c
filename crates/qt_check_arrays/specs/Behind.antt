-- Elements that are added behind others (OpenQASM 3.0 live specification, "Types and Casting", arrays; Cross et al. 2022).
use Rattle.std.specs.Prelude.{List, ◌++◌, Ok}
use Rattle.qt_typed.specs.declared.expression.TypedExpr.{TypedExpr}
use Rattle.qt_typing.specs.Checked.{Checked, and_then}

-- what is found, behind what is there already
abbrev pub behind : List TypedExpr → Checked (List TypedExpr) → Checked (Unit {0} × List TypedExpr)
behind before found = and_then found (λ forms. Ok (tt, before ++ forms))
