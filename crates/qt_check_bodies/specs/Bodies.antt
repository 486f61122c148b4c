-- The bodies of statements as they are typed.
use Rattle.std.specs.Prelude.{List, map, Option, Some, None}
use Rattle.qt_tree.specs.declared.statement.Statement.{Statement}
use Rattle.qt_typing.specs.Statements.{Reading, statement_typing}

-- the body behind `else`
abbrev pub optional_readings : Option (List Statement) → Option (List Reading)
optional_readings None = None
optional_readings (Some body) = Some (map statement_typing body)
