-- A program's canonical lexemes, and then the end, spell the program but for places.
use Rattle.std.proofs.Common.{◌≡◌, ℕ, ◌+◌, List, [], ◌∷◌, ◌++◌, map, Option, None, refl, sym, ◌∙◌, ap, subst}
use Rattle.std.proofs.lemmas.List.{append-nil}
use Rattle.qt_tree.specs.declared.program.Item.{Item}
use Rattle.qt_tree.specs.declared.program.Program.{Program}
use Rattle.qt_tree.specs.declared.program.Version.{Version}
use Rattle.qt_terminals.specs.declared.terminal.Terminal.TheVariants as w
use Rattle.qt_terminals.specs.Alphabet.{code}
use Rattle.qt_terminals.specs.Terminals.{PlacedTerminal}
use Rattle.qt_grammar.specs.Form.{maybe, member, Reading, ReadsOne, ReadsThen}
use Rattle.qt_grammar.specs.Language.{version_form, versions_of}
use Rattle.qt_grammar.specs.Spelling.{ReadsTo}
use Rattle.qt_print.specs.Statements.{Line, all_lines}
use Rattle.qt_print.specs.Programs.{version_lines, item_lines, program_lines}
use Rattle.qt_round_trip.specs.Places.{origin, bare_item, bare_version, SameButPlaces}
use Rattle.qt_round_trip.proofs.lexemes.Written.{lexemes_of, Written}
use Rattle.qt_round_trip.proofs.reparsing.Laws.{ReadsAgain}
use Rattle.qt_round_trip.proofs.reparsing.Streams.{Streams, At, written_split, terminal_in}
use Rattle.qt_round_trip.proofs.reparsing.Again.{Again, Any}
use Rattle.qt_round_trip.proofs.reparsing.Plain.{lexemes_both}
use Rattle.qt_round_trip.proofs.reparsing.Setting.{Setting, Reader, NoElse}
use Rattle.qt_round_trip.proofs.reparsing.Forms.{form-perhaps}
use Rattle.qt_round_trip.proofs.reparsing.Sentences.{lexemes_of_both}
use Rattle.qt_round_trip.proofs.reparsing.Programs.{items-again, version-again}
use Rattle.qt_round_trip.proofs.reparsing.Levels.{names_at}

-- the lines of the version of a text, where it has one
abbrev first_lines : Option Version → List Line
first_lines version = all_lines (map version_lines (versions_of version))

abbrev SameVersion : Option Version → Option Version → Type 0
SameVersion x y = map bare_version (versions_of x) ≡ map bare_version (versions_of y)

abbrev SameItems : List Item → List Item → Type 0
SameItems xs ys = map bare_item xs ≡ map bare_item ys

first-again : (s : Setting) → Reader s None (maybe version_form) (maybe version_form) (λ o l. lexemes_of (first_lines o) ≡ l) SameVersion Any
first-again s =
    form-perhaps (version-again s None) (λ o l. lexemes_of (first_lines o) ≡ l) SameVersion refl
    (λ x l h. ap lexemes_of (append-nil (version_lines x)) ∙ h) refl (λ x y same. ap (λ t. t ∷ []) same)

abbrev program_of : Option Version × (List Item × PlacedTerminal) → Program
program_of c = record { versions = versions_of c.0; items = c.1.0; end = c.1.1.place }

abbrev ReadsWhole : Reading (Option Version) → Reading (List Item) → (ℕ → PlacedTerminal) → Reading Program
ReadsWhole r q ts = λ i v j. (c : Option Version × (List Item × PlacedTerminal))
    × ReadsThen {C = Option Version × (List Item × PlacedTerminal)} (λ x y. (x, y)) r (ReadsThen {C = List Item × PlacedTerminal} (λ x y. (x, y)) q (ReadsOne ts (code w.End ∷ []))) i c j × (v ≡ program_of c)

program_lexemes : (v : Option Version) (items : List Item) (last : PlacedTerminal) → lexemes_of (program_lines (program_of (v, (items, last)))) ≡ lexemes_of (first_lines v) ++ lexemes_of (all_lines (map item_lines items))
program_lexemes v items last = lexemes_of_both (first_lines v) (all_lines (map item_lines items))

same_program : (v v' : Option Version) (items items' : List Item) (last last' : PlacedTerminal) → SameVersion v v' → SameItems items items' → SameButPlaces (program_of (v, (items, last))) (program_of (v', (items', last')))
same_program v v' items items' last last' same alike =
    ap (λ t. record { versions = t; items = map bare_item items; end = origin }) same ∙ ap (λ t. record { versions = map bare_version (versions_of v'); items = t; end = origin }) alike

-- a version, items, and the end, which isn't printed
module _ (z : Streams) (r r' : Reading (Option Version)) (q q' : Reading (List Item))
    (a : Again z r r' (λ o l. lexemes_of (first_lines o) ≡ l) SameVersion Any) (b : Again z q q' (λ xs l. lexemes_of (all_lines (map item_lines xs)) ≡ l) SameItems (NoElse z)) where
  reads_parts : (v : Option Version) (items : List Item) (m j : ℕ) → r' 0 v m → q' m items j → (z.new j).terminal ≡ w.End → ReadsWhole r' q' z.new 0 (program_of (v, (items, z.new j))) (j + 1)
  reads_parts v items m j hv hi end = ((v, (items, z.new j)), (v, (items, z.new j), m, hv, (items, z.new j, j, hi, (terminal_in ((z.new j).terminal) w.End end, refl, refl), refl), refl), refl)

  -- what is read again, for a program that is told by its parts
  parts_again : (v : Option Version) (items : List Item) (last : PlacedTerminal) (m n : ℕ) → r 0 v m → q m items n → At z 0 0 → (j : ℕ) → Written z.new (lexemes_of (program_lines (program_of (v, (items, last))))) 0 j → (z.new j).terminal ≡ w.End
      → (p : Program) × (k : ℕ) × ReadsWhole r' q' z.new 0 p k × SameButPlaces (program_of (v, (items, last))) p
  parts_again v items last m n hv hi at j has end =
      let x = a.again 0 v m hv in
      let y = b.again m items n hi in
      let s = written_split z.new x.0 y.0 0 j (subst (λ t. Written z.new t 0 j) (program_lexemes v items last ∙ lexemes_both (lexemes_of (first_lines v)) (lexemes_of (all_lines (map item_lines items))) x.0 y.0 x.1 y.1) has) in
      let first = x.2 0 s.0 at s.1 tt in
      let others = y.2 s.0 j first.3 s.2 (ap (λ k. member (code k) (code w.Else ∷ [])) end) in (
        program_of (first.0, (others.0, z.new j)),
        j + 1,
        reads_parts first.0 others.0 s.0 j first.1 others.1 end,
        same_program v first.0 items others.0 last (z.new j) first.2 others.2,
      )

  whole_again : (p : Program) (j : ℕ) → ReadsWhole r q z.old 0 p j → At z 0 0 → (j' : ℕ) → Written z.new (lexemes_of (program_lines p)) 0 j' → (z.new j').terminal ≡ w.End
      → (p' : Program) × (m : ℕ) × ReadsWhole r' q' z.new 0 p' m × SameButPlaces p p'
  whole_again p j (c, (v, rest, m, hv, (items, last, n, hi, ht, e2), e1), e0) at j' has end =
      let p_is : p ≡ program_of (v, (items, last)) = e0 ∙ ap program_of (e1 ∙ ap {B = Option Version × (List Item × PlacedTerminal)} (λ t. (v, t)) e2) in
      let x = parts_again v items last m n hv hi at j' (subst (λ t. Written z.new (lexemes_of (program_lines t)) 0 j') p_is has) end in
      (x.0, x.1, x.2, subst (λ t. SameButPlaces t x.0) (sym p_is) x.3)

pub reads_again : ReadsAgain
reads_again ts written counts counts' at faithful texts numbers l p (i, h) j has end =
    let z : Streams = record { old = ts; new = written; old_counts = counts; new_counts = counts'; faithful = faithful; bit_texts = texts; numbers = numbers } in
    let s : Setting = record { streams = z; cap = l.operators; old = ReadsTo ts l.operators l.levels; new = ReadsTo written l.operators l.levels; names = names_at z l.operators l.levels } in
    let r = whole_again z _ _ _ _ (first-again s).reads (items-again s None).reads p i h at j has end in
    (r.0, (r.1, r.2), r.3)
