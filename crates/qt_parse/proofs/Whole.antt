-- A whole program: its version, its items and the end of the text.
use Rattle.std.proofs.Common.{◌≡◌, ℕ, ◌+◌, List, [], ◌∷◌, true, false, Option, None, Ok, Err, refl}
use Rattle.qt_tree.specs.declared.program.Version.{Version}
use Rattle.qt_tree.specs.declared.program.Item.{Item}
use Rattle.qt_tree.specs.declared.program.Program.{Program}
use Rattle.qt_terminals.specs.declared.terminal.Terminal.TheVariants as w
use Rattle.qt_terminals.specs.Alphabet.{code}
use Rattle.qt_terminals.specs.Terminals.{PlacedTerminal, stream}
use Rattle.qt_grammar.specs.Sorts.{item}
use Rattle.qt_grammar.specs.Sorts as sorts
use Rattle.qt_grammar.specs.Form.{maybe, member, terminal_at}
use Rattle.qt_grammar.specs.declared.refusal.Refusal.TheVariants.{Syntax}
use Rattle.qt_grammar.specs.Outcome.{Outcome, and_then}
use Rattle.qt_grammar.specs.Language as g
use Rattle.qt_lookahead.specs.OneToken.{read_exactly}
use Rattle.qt_expr.specs.Parser.{reading}
use Rattle.qt_parse.specs.Parser.{read_versions, read_items, read_whole}

abbrev pub program_of : List Version → List Item → PlacedTerminal → Program
program_of versions items end = record { versions = versions; items = items; end = end.place }

abbrev at_the_end : Option Version × (List Item × PlacedTerminal) → ℕ → Outcome Program
at_the_end c l = Ok (program_of (g.versions_of c.0) c.1.0 c.1.1, l)

with_end : (version : Option Version) (items : List Item) (E : Outcome PlacedTerminal)
    → and_then {A = Option Version × (List Item × PlacedTerminal)} {B = Program}
    (and_then {A = List Item × PlacedTerminal} {B = Option Version × (List Item × PlacedTerminal)}
    (and_then {A = PlacedTerminal} {B = List Item × PlacedTerminal} E (λ y l. Ok ((items, y), l))) (λ y l. Ok ((version, y), l))) at_the_end
    ≡ and_then {A = PlacedTerminal} {B = Program} E (λ end l. Ok (program_of (g.versions_of version) items end, l))
with_end version items (Ok z) = refl
with_end version items (Err x) = refl

with_items : (version : Option Version) (I : Outcome (List Item)) (E : ℕ → Outcome PlacedTerminal)
    → and_then {A = Option Version × (List Item × PlacedTerminal)} {B = Program}
    (and_then {A = List Item × PlacedTerminal} {B = Option Version × (List Item × PlacedTerminal)}
    (and_then {A = List Item} {B = List Item × PlacedTerminal} I (λ xs k. and_then {A = PlacedTerminal} {B = List Item × PlacedTerminal} (E k) (λ y l. Ok ((xs, y), l)))) (λ y l. Ok ((version, y), l))) at_the_end
    ≡ and_then {A = List Item} {B = Program} I (λ items k. and_then {A = PlacedTerminal} {B = Program} (E k) (λ end l. Ok (program_of (g.versions_of version) items end, l)))
with_items version (Ok z) E = with_end version z.0 (E z.1)
with_items version (Err x) E = refl

with_version : (V : Outcome (Option Version)) (I : ℕ → Outcome (List Item)) (E : ℕ → Outcome PlacedTerminal)
    → and_then {A = Option Version × (List Item × PlacedTerminal)} {B = Program}
    (and_then {A = Option Version} {B = Option Version × (List Item × PlacedTerminal)} V (λ x m. and_then {A = List Item × PlacedTerminal} {B = Option Version × (List Item × PlacedTerminal)}
    (and_then {A = List Item} {B = List Item × PlacedTerminal} (I m) (λ xs k. and_then {A = PlacedTerminal} {B = List Item × PlacedTerminal} (E k) (λ y l. Ok ((xs, y), l)))) (λ y l. Ok ((x, y), l)))) at_the_end
    ≡ and_then {A = List Version} {B = Program} (and_then {A = Option Version} {B = List Version} V (λ x m. Ok (g.versions_of x, m)))
    (λ versions m. and_then {A = List Item} {B = Program} (I m) (λ items k. and_then {A = PlacedTerminal} {B = Program} (E k) (λ end l. Ok (program_of versions items end, l))))
with_version (Ok z) I E = with_items z.0 (I z.1) E
with_version (Err x) I E = refl

pub whole_is : (tokens : List PlacedTerminal) → read_whole tokens 64 0
    ≡ and_then {A = List Version} {B = Program} (read_versions tokens 0) (λ versions m. and_then {A = List Item} {B = Program} (read_items tokens 64 m)
    (λ items k. and_then {A = PlacedTerminal} {B = Program} (read_exactly tokens (code w.End) k) (λ end l. Ok (program_of versions items end, l))))
unfolding read_versions read_items read_exactly read_whole
whole_is tokens = with_version (reading tokens 0 (maybe {s = sorts.version} g.version_form) None 0) (λ m. reading tokens 64 (g.or_none {s = item} (g.some {s = item} g.global)) None m) (λ m. reading tokens 0 (g.exactly w.End) None m)

pub no_end : (tokens : List PlacedTerminal) (at : ℕ) → member (terminal_at (stream tokens) at) (code w.End ∷ []) ≡ false → read_exactly tokens (code w.End) at ≡ Err (Syntax at)
unfolding read_exactly
no_end tokens at e = rw e refl

pub the_end : (tokens : List PlacedTerminal) (at : ℕ) → member (terminal_at (stream tokens) at) (code w.End ∷ []) ≡ true → read_exactly tokens (code w.End) at ≡ Ok (stream tokens at, at + 1)
unfolding read_exactly
the_end tokens at e = rw e refl
