-- The outcome of reading a form is right, and no other is.
use Rattle.std.proofs.Common.{◌≡◌, ◌≢◌, ℕ, suc, ◌+◌, ◌≤◌, ◌<◌, ◌⊎◌, inl, inr, max, true, Option, None, Result, Ok, Err, refl, ◌∙◌, ap, subst, arith}
use Rattle.qt_grammar.specs.declared.refusal.Refusal.{Refusal}
use Rattle.qt_grammar.specs.declared.refusal.Refusal.TheVariants.{Syntax, Nest, OutOfMemory}
use Rattle.qt_terminals.specs.Terminals.{PlacedTerminal}
use Rattle.qt_grammar.specs.Sorts.{Sort, Value, program}
use Rattle.qt_grammar.specs.Form.{Form, terminal_at}
use Rattle.qt_grammar.specs.Outcome.{Outcome, Says, Tells}
use Rattle.qt_grammar.specs.Language.{whole}
use Rattle.qt_grammar.specs.Lookahead.{first, nullable}
use Rattle.qt_grammar.specs.Spelling.{Limits, Spells, Opens}
use Rattle.qt_grammar.specs.Promise.{LongestPrefix, Tree, Stopper, FirstTooDeep, Answers, OnlyProgram, NoProgram, Parses}
use Rattle.qt_grammar.proofs.Munch.{Found, Held}
use Rattle.qt_grammar.proofs.LookaheadTests.{In, follow, good}
use Rattle.qt_grammar.proofs.Forms.{Sound}
use Rattle.qt_grammar.proofs.Tables.{tested_whole}
use Rattle.qt_grammar.proofs.Named.{Reads, sound_form}
use Rattle.qt_grammar.proofs.Named as limited
use Rattle.qt_grammar.proofs.Limits.{reads_more, opens_more, W, larger, given, ok_longest, ok_only, syntax_longest, syntax_none, opens_later}

module _ (ts : ℕ → PlacedTerminal) (s : Sort) (f : Form s) (g : good f ≡ true) (e : Option ℕ) (i : ℕ) where
  sound_at : (l : Limits) → Sound ts (Reads ts l.operators l.levels f e) (limited.Opens ts l.operators l.levels f e) (first f) (nullable f) (follow f)
  sound_at l = sound_form ts l.operators l.levels f g e

  -- what is spelled is opened
  pub opens_spelled : (l : Limits) (v : Value s) (j : ℕ) → Spells ts s f e i l v j → Opens ts s f e i l j
  opens_spelled l v j h = (sound_at l).whole i v j h

  module _ (turns : ℕ) (last : (i : ℕ) → turns ≤ i → terminal_at ts i ≡ 0) (l : Limits) where
    abbrev At : Outcome (Value s) → Type 0
    At out = W ts turns last l.operators l.levels f e i ≡ out

    found : (z : Value s × ℕ) → At (Ok z) → Tree ts s f e i l z.0 z.1
    found z h =
        let k : Found ts (Reads ts l.operators l.levels f e) (limited.Opens ts l.operators l.levels f e) i z.0 z.1 = given ts turns last l.operators l.levels f g e i (Ok z) h in
        record {
          spells = k.reads;
          longest = record {
            opens = (l, opens_spelled l z.0 z.1 k.reads);
            longest = λ n o. ok_longest ts turns last f g e i l.operators l.levels (o.0).operators (o.0).levels z h n o.1;
          };
          only = λ w r. ok_only ts turns last f g e i l.operators l.levels (r.0).operators (r.0).levels z h w r.1;
        }

    stopped : (n : ℕ) → At (Err (Syntax n)) → Opens ts s f e i l n × Stopper ts s f e i n
    stopped n h =
        let k : Held ts (Reads ts l.operators l.levels f e) (limited.Opens ts l.operators l.levels f e) (In (follow f)) i n = given ts turns last l.operators l.levels f g e i (Err (Syntax n)) h in (
          k.opens,
          record {
            longest = record {
              opens = (l, k.opens);
              longest = λ m o. syntax_longest ts turns last f g e i l.operators l.levels (o.0).operators (o.0).levels n h m o.1;
            };
            none = λ w r. syntax_none ts turns last f g e i l.operators l.levels (r.0).operators (r.0).levels n h w r.1;
          },
        )

    too_deep : (n : ℕ) → At (Err (Nest n)) → FirstTooDeep ts s f e i l n
    too_deep n h =
        let k : Held ts (Reads ts l.operators l.levels f e) (limited.Opens ts l.operators l.levels f e) (In (follow f)) i n = given ts turns last l.operators l.levels f g e i (Err (Nest n)) h in
        record {
          before = k.opens;
          limit = k.longest;
          larger = (record { levels = suc l.levels; operators = larger ts turns last l.operators n }, opens_later ts turns last l.operators l.levels f g e i n h);
        }

    -- the outcome of reading a form is right
    pub answers : (out : Outcome (Value s)) → At out → Answers ts s f e i l out
    answers (Ok z) h = found z h
    answers (Err (Syntax n)) h = stopped n h
    answers (Err (Nest n)) h = too_deep n h
    answers (Err OutOfMemory) h = tt

    pub answers_said : (r : Result (Value s × ℕ) Refusal) → Says (W ts turns last l.operators l.levels f e i) r → Answers ts s f e i l r
    answers_said (Ok z) h = found z h
    answers_said (Err (Syntax n)) h = stopped n (h (λ x. cc x))
    answers_said (Err (Nest n)) h = too_deep n (h (λ x. cc x))
    answers_said (Err OutOfMemory) h = tt

  -- ---- no other outcome is right

  module _ (l : Limits) where
    abbrev Right : Outcome (Value s) → Type 0
    Right out = Answers ts s f e i l out

    same_end : (j k : ℕ) → LongestPrefix ts s f e i j → LongestPrefix ts s f e i k → j ≡ k
    same_end j k a b = let x : k ≤ j = a.longest k b.opens in let y : j ≤ k = b.longest j a.opens in omega (arith, x, y)

    tree_or_stopper : (v : Value s) (j n : ℕ) → Tree ts s f e i l v j → Stopper ts s f e i n → ⊥
    tree_or_stopper v j n t u = u.none v (l, subst (λ k. Spells ts s f e i l v k) (same_end j n t.longest u.longest) t.spells)

    -- the longest list doesn't end within the limits where a token is too deep
    too_short : (j n : ℕ) → LongestPrefix ts s f e i j → Opens ts s f e i l j → FirstTooDeep ts s f e i l n → ⊥
    too_short j n a o d = let x : j ≤ n = d.limit j o in let y : n + 1 ≤ j = a.longest (n + 1) d.larger in omega (arith, x, y)

    pub one_answer : (a b : Outcome (Value s)) → a ≢ Err OutOfMemory → b ≢ Err OutOfMemory → Right a → Right b → a ≡ b
    one_answer (Ok y) (Ok z) x w a b = same_pair (same_end y.1 z.1 a.longest b.longest)
      where
        same_pair : y.1 ≡ z.1 → (let o : Outcome (Value s) = Ok y in o) ≡ Ok z
        same_pair q =
            let v : y.0 ≡ z.0 = b.only y.0 (l, subst (λ k. Spells ts s f e i l y.0 k) q a.spells) in
            ap (λ t. let o : Outcome (Value s) = Ok (t, y.1) in o) v ∙ ap (λ t. let o : Outcome (Value s) = Ok (z.0, t) in o) q
    one_answer (Ok y) (Err (Syntax n)) x w a b = absurd (tree_or_stopper y.0 y.1 n a b.1)
    one_answer (Ok y) (Err (Nest n)) x w a b = absurd (too_short y.1 n a.longest (opens_spelled l y.0 y.1 a.spells) b)
    one_answer (Err (Syntax m)) (Ok z) x w a b = absurd (tree_or_stopper z.0 z.1 m b a.1)
    one_answer (Err (Syntax m)) (Err (Syntax n)) x w a b = ap (λ t. let o : Outcome (Value s) = Err (Syntax t) in o) (same_end m n (a.1).longest (b.1).longest)
    one_answer (Err (Syntax m)) (Err (Nest n)) x w a b = absurd (too_short m n (a.1).longest a.0 b)
    one_answer (Err (Nest m)) (Ok z) x w a b = absurd (too_short z.1 m b.longest (opens_spelled l z.0 z.1 b.spells) a)
    one_answer (Err (Nest m)) (Err (Syntax n)) x w a b = absurd (too_short n m (b.1).longest b.0 a)
    one_answer (Err (Nest m)) (Err (Nest n)) x w a b =
        let p : m ≤ n = b.limit m a.before in let q : n ≤ m = a.limit n b.before in
        ap (λ t. let o : Outcome (Value s) = Err (Nest t) in o) (omega (arith, p, q))
    one_answer (Err OutOfMemory) b x w a c = absurd (x refl)
    one_answer a (Err OutOfMemory) x w b c = absurd (w refl)

-- ---- a program

-- limits within which all is read that is read within the one or the other
abbrev pub joint : Limits → Limits → Limits
joint l m = record { levels = max l.levels m.levels; operators = max l.operators m.operators }

module _ (ts : ℕ → PlacedTerminal) where
  abbrev Spelled : Limits → Value program → ℕ → Type 0
  Spelled l p j = Spells ts program whole None 0 l p j

  abbrev Opened : Limits → ℕ → Type 0
  Opened l j = Opens ts program whole None 0 l j

  -- nothing follows a program
  never_on : (l : Limits) (p : Value program) (j k : ℕ) → Spelled l p j → Opened l k → j < k → ⊥
  never_on l p j k r o lt =
      let w : In (follow whole) (terminal_at ts j) = (sound_at ts program whole tested_whole None 0 l).goes_on 0 p j k r o lt in cc w

  pub no_longer : (l m : Limits) (p : Value program) (j k : ℕ) → Spelled l p j → Opened m k → k ≤ j
  no_longer l m p j k r o = elim (le_or_lt k j) [
    | inl le ↦ le
    | inr lt ↦ absurd (never_on (joint l m) p j k
        (reads_more ts l.operators (joint l m).operators (omega arith) l.levels (joint l m).levels (omega arith) whole None 0 p j r)
        (opens_more ts m.operators (joint l m).operators (omega arith) m.levels (joint l m).levels (omega arith) whole None 0 k o) lt)
  ]
    where
      le_or_lt : (k j : ℕ) → (k ≤ j) ⊎ (j < k)
      le_or_lt k j = grind arith

  -- a program ends where the longest list ends that opens one
  same_stop : (l : Limits) (p : Value program) (j n : ℕ) → Spelled l p j → LongestPrefix ts program whole None 0 n → j ≡ n
  same_stop l p j n r a =
      let x : j ≤ n = a.longest j (l, opens_spelled ts program whole tested_whole None 0 l p j r) in
      let y : n ≤ j = no_longer l a.opens.0 p j n r a.opens.1 in omega (arith, x, y)

  pub parses : (l : Limits) (r : Result (Value program) Refusal) (out : Outcome (Value program)) → Answers ts program whole None 0 l out → Tells out r → Parses ts l r
  parses l (Ok p) out a (j, h) = program_of (subst (λ o. Answers ts program whole None 0 l o) h a)
    where
      program_of : Tree ts program whole None 0 l p j → OnlyProgram ts l p
      program_of t = record {
        spells = (j, t.spells);
        only = λ m q h. t.only q (m, subst (λ k. Spelled m q k) (same_stop m q h.0 j h.1 t.longest) h.1);
      }
  parses l (Err (Syntax n)) out a h = stopped_at (subst (λ o. Answers ts program whole None 0 l o) (h (λ x. cc x)) a)
    where
      stopped_at : Opened l n × Stopper ts program whole None 0 n → NoProgram ts l n
      stopped_at t = record {
        none = λ m p h. (t.1).none p (m, subst (λ k. Spelled m p k) (same_stop m p h.0 n h.1 (t.1).longest) h.1);
        longest = (t.1).longest;
        before = t.0;
      }
  parses l (Err (Nest n)) out a h = subst (λ o. Answers ts program whole None 0 l o) (h (λ x. cc x)) a
  parses l (Err OutOfMemory) out a h = tt

  -- no other answer is right
  module _ (l : Limits) where
    pub program_fits : (p : Value program) (j n : ℕ) → Spelled l p j → FirstTooDeep ts program whole None 0 l n → ⊥
    program_fits p j n r d =
        let o : j ≤ n = d.limit j (opens_spelled ts program whole tested_whole None 0 l p j r) in
        let y : n + 1 ≤ j = no_longer l (d.larger).0 p j (n + 1) r (d.larger).1 in
        omega (arith, o, y)

    stops_before : (m n : ℕ) → NoProgram ts l m → FirstTooDeep ts program whole None 0 l n → ⊥
    stops_before m n a d =
        let x : m ≤ n = d.limit m a.before in let y : n + 1 ≤ m = (a.longest).longest (n + 1) d.larger in omega (arith, x, y)

    pub one_parse : (a b : Result (Value program) Refusal) → a ≢ Err OutOfMemory → b ≢ Err OutOfMemory → Parses ts l a → Parses ts l b → a ≡ b
    one_parse (Ok p) (Ok q) x w a b = ap (λ t. let o : Result (Value program) Refusal = Ok t in o) (b.only l p a.spells)
    one_parse (Ok p) (Err (Syntax n)) x w a b = absurd (b.none l p a.spells)
    one_parse (Ok p) (Err (Nest n)) x w a b = absurd (program_fits p (a.spells).0 n (a.spells).1 b)
    one_parse (Err (Syntax m)) (Ok q) x w a b = absurd (a.none l q b.spells)
    one_parse (Err (Syntax m)) (Err (Syntax n)) x w a b =
        let p : m ≤ n = (b.longest).longest m (a.longest).opens in let q : n ≤ m = (a.longest).longest n (b.longest).opens in
        ap (λ t. let o : Result (Value program) Refusal = Err (Syntax t) in o) (omega (arith, p, q))
    one_parse (Err (Syntax m)) (Err (Nest n)) x w a b = absurd (stops_before m n a b)
    one_parse (Err (Nest m)) (Ok q) x w a b = absurd (program_fits q (b.spells).0 m (b.spells).1 a)
    one_parse (Err (Nest m)) (Err (Syntax n)) x w a b = absurd (stops_before n m b a)
    one_parse (Err (Nest m)) (Err (Nest n)) x w a b =
        let p : m ≤ n = b.limit m a.before in let q : n ≤ m = a.limit n b.before in
        ap (λ t. let o : Result (Value program) Refusal = Err (Nest t) in o) (omega (arith, p, q))
    one_parse (Err OutOfMemory) b x w a c = absurd (x refl)
    one_parse a (Err OutOfMemory) x w b c = absurd (w refl)
