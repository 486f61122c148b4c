-- Each terminal has a number of its own: the list of all terminals gives it back.
use Rattle.std.proofs.Common.{◌≡◌, List, [], ◌∷◌, get_or, refl, sym, ap, ◌∙◌}
use Rattle.qt_terminals.specs.declared.terminal.Terminal.{Terminal}
use Rattle.qt_terminals.specs.declared.terminal.Terminal.TheVariants as w
use Rattle.qt_terminals.specs.Alphabet.{code}

abbrev all_terminals : List Terminal
all_terminals =
    w.End ∷ w.Name ∷ w.Integer ∷ w.Decimal ∷ w.BitText ∷ w.Text ∷ w.Pi ∷ w.Tau ∷ w.Euler ∷ w.Wide ∷ w.Timing ∷
    w.Imaginary ∷ w.Hardware ∷ w.HashPragma ∷ w.HashDim ∷ w.Hash ∷ w.OpenQasm ∷ w.Include ∷ w.Qubit ∷ w.Qreg ∷
    w.Bit ∷ w.Creg ∷ w.Bool ∷ w.Int ∷ w.Uint ∷ w.Angle ∷ w.Array ∷ w.Const ∷ w.Let ∷ w.Input ∷ w.Output ∷ w.Gate ∷
    w.Def ∷ w.Return ∷ w.Measure ∷ w.Reset ∷ w.Barrier ∷ w.If ∷ w.Else ∷ w.While ∷ w.For ∷ w.In ∷ w.Break ∷
    w.Continue ∷ w.EndWord ∷ w.Ctrl ∷ w.NegCtrl ∷ w.Inv ∷ w.Pow ∷ w.GPhase ∷ w.True ∷ w.False ∷ w.SizeOf ∷ w.Float ∷
    w.Complex ∷ w.Duration ∷ w.Stretch ∷ w.Delay ∷ w.Box ∷ w.DurationOf ∷ w.Cal ∷ w.DefCal ∷ w.DefCalGrammar ∷
    w.Extern ∷ w.Pragma ∷ w.Switch ∷ w.Case ∷ w.Default ∷ w.LeftParen ∷ w.RightParen ∷ w.LeftBracket ∷
    w.RightBracket ∷ w.LeftBrace ∷ w.RightBrace ∷ w.Semicolon ∷ w.Comma ∷ w.Colon ∷ w.At ∷ w.Arrow ∷ w.Assign ∷
    w.EqualEqual ∷ w.NotEqual ∷ w.Less ∷ w.LessEqual ∷ w.Greater ∷ w.GreaterEqual ∷ w.ShiftLeft ∷ w.ShiftRight ∷
    w.Plus ∷ w.Minus ∷ w.Star ∷ w.Slash ∷ w.Percent ∷ w.StarStar ∷ w.PlusPlus ∷ w.And ∷ w.AndAnd ∷ w.Or ∷ w.OrOr ∷
    w.Caret ∷ w.Bang ∷ w.Tilde ∷ w.PlusAssign ∷ w.MinusAssign ∷ w.StarAssign ∷ w.SlashAssign ∷ w.PercentAssign ∷
    w.StarStarAssign ∷ w.AndAssign ∷ w.OrAssign ∷ w.CaretAssign ∷ w.ShiftLeftAssign ∷ w.ShiftRightAssign ∷ []

numbered : (terminal : Terminal) → get_or all_terminals (code terminal) w.End ≡ terminal
numbered w.End = refl
numbered w.Name = refl
numbered w.Integer = refl
numbered w.Decimal = refl
numbered w.BitText = refl
numbered w.Text = refl
numbered w.Pi = refl
numbered w.Tau = refl
numbered w.Euler = refl
numbered w.Wide = refl
numbered w.Timing = refl
numbered w.Imaginary = refl
numbered w.Hardware = refl
numbered w.HashPragma = refl
numbered w.HashDim = refl
numbered w.Hash = refl
numbered w.OpenQasm = refl
numbered w.Include = refl
numbered w.Qubit = refl
numbered w.Qreg = refl
numbered w.Bit = refl
numbered w.Creg = refl
numbered w.Bool = refl
numbered w.Int = refl
numbered w.Uint = refl
numbered w.Angle = refl
numbered w.Array = refl
numbered w.Const = refl
numbered w.Let = refl
numbered w.Input = refl
numbered w.Output = refl
numbered w.Gate = refl
numbered w.Def = refl
numbered w.Return = refl
numbered w.Measure = refl
numbered w.Reset = refl
numbered w.Barrier = refl
numbered w.If = refl
numbered w.Else = refl
numbered w.While = refl
numbered w.For = refl
numbered w.In = refl
numbered w.Break = refl
numbered w.Continue = refl
numbered w.EndWord = refl
numbered w.Ctrl = refl
numbered w.NegCtrl = refl
numbered w.Inv = refl
numbered w.Pow = refl
numbered w.GPhase = refl
numbered w.True = refl
numbered w.False = refl
numbered w.SizeOf = refl
numbered w.Float = refl
numbered w.Complex = refl
numbered w.Duration = refl
numbered w.Stretch = refl
numbered w.Delay = refl
numbered w.Box = refl
numbered w.DurationOf = refl
numbered w.Cal = refl
numbered w.DefCal = refl
numbered w.DefCalGrammar = refl
numbered w.Extern = refl
numbered w.Pragma = refl
numbered w.Switch = refl
numbered w.Case = refl
numbered w.Default = refl
numbered w.LeftParen = refl
numbered w.RightParen = refl
numbered w.LeftBracket = refl
numbered w.RightBracket = refl
numbered w.LeftBrace = refl
numbered w.RightBrace = refl
numbered w.Semicolon = refl
numbered w.Comma = refl
numbered w.Colon = refl
numbered w.At = refl
numbered w.Arrow = refl
numbered w.Assign = refl
numbered w.EqualEqual = refl
numbered w.NotEqual = refl
numbered w.Less = refl
numbered w.LessEqual = refl
numbered w.Greater = refl
numbered w.GreaterEqual = refl
numbered w.ShiftLeft = refl
numbered w.ShiftRight = refl
numbered w.Plus = refl
numbered w.Minus = refl
numbered w.Star = refl
numbered w.Slash = refl
numbered w.Percent = refl
numbered w.StarStar = refl
numbered w.PlusPlus = refl
numbered w.And = refl
numbered w.AndAnd = refl
numbered w.Or = refl
numbered w.OrOr = refl
numbered w.Caret = refl
numbered w.Bang = refl
numbered w.Tilde = refl
numbered w.PlusAssign = refl
numbered w.MinusAssign = refl
numbered w.StarAssign = refl
numbered w.SlashAssign = refl
numbered w.PercentAssign = refl
numbered w.StarStarAssign = refl
numbered w.AndAssign = refl
numbered w.OrAssign = refl
numbered w.CaretAssign = refl
numbered w.ShiftLeftAssign = refl
numbered w.ShiftRightAssign = refl

pub code_same : (a b : Terminal) → code a ≡ code b → a ≡ b
code_same a b e = sym (numbered a) ∙ ap (λ n. get_or all_terminals n w.End) e ∙ numbered b
