-- A text is that of a program of the first form, or of none.
use Rattle.std.proofs.Common.{◌≡◌, ◌≢◌, ℕ, zero, suc, ◌<◌, ◌≤◌, inl, inr, ⊎_elim, List, [], ◌∷◌, ◌++◌, length, refl, sym, ap, ◌∙◌, subst, arith}
use Rattle.std.specs.List.{flat_map}
use Rattle.qt_first.specs.declared.program.Statement.{Statement}
use Rattle.qt_first.specs.declared.program.Statement.TheVariants.{Hadamard, T, X, ControlledX, Measure}
use Rattle.qt_first.specs.declared.program.Program.{Program}
use Rattle.qt_first.specs.Form.{head_text, statement_text, IsPlaced, ArePlaced, measurements, IsFirstFormText}
use Rattle.qt_first.proofs.Lines.{one_list}
use Rattle.qt_host.proofs.Deciding.{IsDecided, both, differ, at_most, some_below, begins, same_rest}

-- two different qubits, the control first, have the property
abbrev Controlled : (Statement → Type 0) → ℕ → ℕ → Type 0
Controlled P c t = (c ≢ t) × P (ControlledX c t)

-- some statement whose indexes lie in the registers has the property, or none has
some_statement : (qubits bits : ℕ) (P : Statement → Type 0) → ((s : Statement) → IsDecided (P s)) → IsDecided ((s : Statement) × IsPlaced qubits bits s × P s)
some_statement qubits bits P d =
    step
    (some_below qubits (λ q. P (Hadamard q)) (λ q h. d (Hadamard q)))
    (some_below qubits (λ q. P (T q)) (λ q h. d (T q)))
    (some_below qubits (λ q. P (X q)) (λ q h. d (X q)))
    (some_below qubits (λ c. (t : ℕ) × (t < qubits) × Controlled P c t) (λ c h. some_below qubits (Controlled P c) (λ t l. both (differ c t) (d (ControlledX c t)))))
    (some_below qubits (λ q. (b : ℕ) × (b < bits) × P (Measure q b)) (λ q h. some_below bits (λ b. P (Measure q b)) (λ b l. d (Measure q b))))
  where
    none : ((q : ℕ) × (q < qubits) × P (Hadamard q) → ⊥) → ((q : ℕ) × (q < qubits) × P (T q) → ⊥) → ((q : ℕ) × (q < qubits) × P (X q) → ⊥)
        → ((c : ℕ) × (c < qubits) × ((t : ℕ) × (t < qubits) × Controlled P c t) → ⊥) → ((q : ℕ) × (q < qubits) × ((b : ℕ) × (b < bits) × P (Measure q b)) → ⊥)
        → (s : Statement) → IsPlaced qubits bits s → P s → ⊥
    none h t x cx m (Hadamard q) placed p = h (q, placed, p)
    none h t x cx m (T q) placed p = t (q, placed, p)
    none h t x cx m (X q) placed p = x (q, placed, p)
    none h t x cx m (ControlledX c u) placed p = cx (c, placed.0, (u, placed.1, (placed.2, p)))
    none h t x cx m (Measure q b) placed p = m (q, placed.0, (b, placed.1, p))

    step : IsDecided ((q : ℕ) × (q < qubits) × P (Hadamard q)) → IsDecided ((q : ℕ) × (q < qubits) × P (T q)) → IsDecided ((q : ℕ) × (q < qubits) × P (X q))
        → IsDecided ((c : ℕ) × (c < qubits) × ((t : ℕ) × (t < qubits) × Controlled P c t)) → IsDecided ((q : ℕ) × (q < qubits) × ((b : ℕ) × (b < bits) × P (Measure q b)))
        → IsDecided ((s : Statement) × IsPlaced qubits bits s × P s)
    step (inl h) t x cx m = inl (Hadamard h.0, h.1, h.2)
    step (inr h) (inl t) x cx m = inl (T t.0, t.1, t.2)
    step (inr h) (inr t) (inl x) cx m = inl (X x.0, x.1, x.2)
    step (inr h) (inr t) (inr x) (inl cx) m = inl (ControlledX cx.0 cx.2.0, (cx.1, cx.2.1, cx.2.2.0), cx.2.2.1)
    step (inr h) (inr t) (inr x) (inr cx) (inl m) = inl (Measure m.0 m.2.0, (m.1, m.2.1), m.2.2)
    step (inr h) (inr t) (inr x) (inr cx) (inr m) = inr (λ s. none h t x cx m s.0 s.1 s.2)

module _ (qubits bits : ℕ) where
  -- the text is that of statements in the registers, never more than so many
  record AreStatements (most : ℕ) (text : List ℕ) : Type 0 where
    statements : List Statement
    placed : ArePlaced qubits bits statements
    few : length statements ≤ most
    spelled : text ≡ flat_map statement_text statements

  -- the text begins with the line of the statement, and never more than so many statements follow
  record Begins (most : ℕ) (text : List ℕ) (s : Statement) : Type 0 where
    rest : List ℕ
    first : text ≡ statement_text s ++ rest
    behind : AreStatements most rest

  first_of : (most : ℕ) (text : List ℕ) → ((rest : List ℕ) → IsDecided (AreStatements most rest)) → (s : Statement) → IsDecided (Begins most text s)
  first_of most text d s = step (begins (statement_text s) text)
    where
      step : IsDecided ((rest : List ℕ) × (text ≡ statement_text s ++ rest)) → IsDecided (Begins most text s)
      step (inl b) =
          ⊎_elim
          (λ behind. inl (record { rest = b.0; first = b.1; behind = behind }))
          (λ never. inr (λ c. never (subst (AreStatements most) (same_rest (statement_text s) c.rest b.0 (sym c.first ∙ b.1)) c.behind)))
          (d b.0)
      step (inr never) = inr (λ c. never (c.rest, c.first))

  no_statements : (most : ℕ) → AreStatements most []
  no_statements most = record { statements = []; placed = tt; few = omega arith; spelled = refl }

  none_left : (text : List ℕ) (x : ℕ) → AreStatements zero (x ∷ text) → ⊥
  none_left text x a = step a.statements a.few a.spelled
    where
      step : (ss : List Statement) → length ss ≤ zero → x ∷ text ≡ flat_map statement_text ss → ⊥
      step [] few e = cc
      step (s ∷ ss) few e = omega (arith, few)

  one_more : (most : ℕ) (text : List ℕ) (s : Statement) → IsPlaced qubits bits s → Begins most text s → AreStatements (suc most) text
  one_more most text s placed b = record {
    statements = s ∷ b.behind.statements;
    placed = (placed, b.behind.placed);
    few = let few = b.behind.few in omega (arith, few);
    spelled = b.first ∙ ap (λ t. statement_text s ++ t) b.behind.spelled;
  }

  first_found : (most : ℕ) (text : List ℕ) (x : ℕ) → AreStatements (suc most) (x ∷ text) → (s : Statement) × IsPlaced qubits bits s × Begins most (x ∷ text) s
  first_found most text x a = step a.statements a.placed a.few a.spelled
    where
      step : (ss : List Statement) → ArePlaced qubits bits ss → length ss ≤ suc most → x ∷ text ≡ flat_map statement_text ss → (s : Statement) × IsPlaced qubits bits s × Begins most (x ∷ text) s
      step [] placed few e = absurd (cc)
      step (s ∷ ss) placed few e =
          (s, placed.0, record { rest = flat_map statement_text ss; first = e; behind = record { statements = ss; placed = placed.1; few = omega (arith, few); spelled = refl } })

  are_statements : (most : ℕ) (text : List ℕ) → IsDecided (AreStatements most text)
  are_statements most [] = inl (no_statements most)
  are_statements zero (x ∷ text) = inr (none_left text x)
  are_statements (suc most) (x ∷ text) =
      ⊎_elim
      (λ f. inl (one_more most (x ∷ text) f.0 f.1 f.2))
      (λ never. inr (λ a. never (first_found most text x a)))
      (some_statement qubits bits (Begins most (x ∷ text)) (first_of most (x ∷ text) (are_statements most)))

-- the text is that of a program on such registers
record HasRegisters (text : List ℕ) (qubits bits : ℕ) : Type 0 where
  some_qubits : 1 ≤ qubits
  some_bits : 1 ≤ bits
  rest : List ℕ
  head : text ≡ head_text qubits bits ++ rest
  body : AreStatements qubits bits 32 rest
  measured : measurements body.statements ≤ 12

has_registers : (text : List ℕ) (qubits bits : ℕ) → qubits ≤ 4 → bits ≤ 4 → IsDecided (HasRegisters text qubits bits)
has_registers text qubits bits few_qubits few_bits = step (at_most 1 qubits) (at_most 1 bits) (begins (head_text qubits bits) text)
  where
    same : (rest : List ℕ) (a b : AreStatements qubits bits 32 rest) → a.statements ≡ b.statements
    same rest a b = one_list qubits bits a.statements b.statements few_qubits few_bits a.placed b.placed (sym a.spelled ∙ b.spelled)

    counted : 1 ≤ qubits → 1 ≤ bits → (rest : List ℕ) → text ≡ head_text qubits bits ++ rest → (a : AreStatements qubits bits 32 rest) → IsDecided (measurements a.statements ≤ 12) → IsDecided (HasRegisters text qubits bits)
    counted q b rest e a (inl few) = inl (record { some_qubits = q; some_bits = b; rest = rest; head = e; body = a; measured = few })
    counted q b rest e a (inr never) =
        inr (λ h. let its : h.rest ≡ rest = same_rest (head_text qubits bits) h.rest rest (sym h.head ∙ e) in
        never (fewer h.rest its h.body h.measured))
      where
        fewer : (other : List ℕ) → other ≡ rest → (c : AreStatements qubits bits 32 other) → measurements c.statements ≤ 12 → measurements a.statements ≤ 12
        fewer other its c few =
            let back = subst (λ t. (d : AreStatements qubits bits 32 t) × (measurements d.statements ≤ 12)) its (c, few) in
            subst (λ ss. measurements ss ≤ 12) (same rest back.0 a) back.1

    body : 1 ≤ qubits → 1 ≤ bits → (rest : List ℕ) → text ≡ head_text qubits bits ++ rest → IsDecided (AreStatements qubits bits 32 rest) → IsDecided (HasRegisters text qubits bits)
    body q b rest e (inl a) = counted q b rest e a (at_most (measurements a.statements) 12)
    body q b rest e (inr never) = inr (λ h. never (subst (AreStatements qubits bits 32) (same_rest (head_text qubits bits) h.rest rest (sym h.head ∙ e)) h.body))

    step : IsDecided (1 ≤ qubits) → IsDecided (1 ≤ bits) → IsDecided ((rest : List ℕ) × (text ≡ head_text qubits bits ++ rest)) → IsDecided (HasRegisters text qubits bits)
    step (inl q) (inl b) (inl r) = body q b r.0 r.1 (are_statements qubits bits 32 r.0)
    step (inl q) (inl b) (inr never) = inr (λ h. never (h.rest, h.head))
    step (inl q) (inr never) r = inr (λ h. never h.some_bits)
    step (inr never) b r = inr (λ h. never h.some_qubits)

abbrev Sized : List ℕ → Type 0
Sized text = (qubits : ℕ) × (qubits < 5) × ((bits : ℕ) × (bits < 5) × HasRegisters text qubits bits)

sized : (text : List ℕ) → IsDecided (Sized text)
sized text =
    some_below 5 (λ qubits. (bits : ℕ) × (bits < 5) × HasRegisters text qubits bits)
    (λ qubits q. some_below 5 (HasRegisters text qubits) (λ bits b. has_registers text qubits bits (omega (arith, q)) (omega (arith, b))))

program_of : (text : List ℕ) → Sized text → (p : Program) × IsFirstFormText p text
program_of text s =
    let h = s.2.2 in (
      record { qubits = s.0; bits = s.2.0; statements = h.body.statements },
      record {
        spelled = h.head ∙ ap (λ t. head_text s.0 s.2.0 ++ t) h.body.spelled;
        limits = record {
          some_qubits = h.some_qubits;
          few_qubits = let q = s.1 in omega (arith, q);
          some_bits = h.some_bits;
          few_bits = let b = s.2.1 in omega (arith, b);
          few_statements = h.body.few;
          few_measurements = h.measured;
          placed = h.body.placed;
        };
      },
    )

sized_by : (text : List ℕ) (p : Program) → IsFirstFormText p text → Sized text
sized_by text p t = (
  p.qubits,
  (let q = t.limits.few_qubits in omega (arith, q)),
  (
    p.bits,
    (let b = t.limits.few_bits in omega (arith, b)),
    record {
      some_qubits = t.limits.some_qubits;
      some_bits = t.limits.some_bits;
      rest = flat_map statement_text p.statements;
      head = t.spelled;
      body = record { statements = p.statements; placed = t.limits.placed; few = t.limits.few_statements; spelled = refl };
      measured = t.limits.few_measurements;
    },
  ),
)

-- a text is that of a program of the first form, or of none
pub first_form : (text : List ℕ) → IsDecided ((p : Program) × IsFirstFormText p text)
first_form text = ⊎_elim (λ s. inl (program_of text s)) (λ never. inr (λ f. never (sized_by text f.0 f.1))) (sized text)
