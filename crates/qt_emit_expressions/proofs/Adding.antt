-- Lists that grow at their end, step by step.
use Rattle.std.proofs.Common.{◌≡◌, List, [], ◌++◌, sym, ap, subst, ◌∙◌, append_assoc, append-nil}
use Rattle.qt_emit_expressions.specs.Adds.{Adds}

pub chain : {A : Type 0} (old middle new first rest : List A) → Adds old middle first → Adds middle new rest → Adds old new (first ++ rest)
chain old middle new first rest s t = record { by = t.by ∙ (ap (λ l. l ++ rest) s.by ∙ append_assoc old first rest) }

pub becomes : {A : Type 0} (old new first second : List A) → first ≡ second → Adds old new first → Adds old new second
becomes old new first second e s = subst (λ l. Adds old new l) e s

pub nothing : {A : Type 0} (old : List A) → Adds old old []
nothing old = record { by = sym (append-nil old) }
