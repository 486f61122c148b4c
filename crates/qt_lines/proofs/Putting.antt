-- What was put of a text: whole, and in part.
use Rattle.std.proofs.Common.{◌≡◌, ℕ, ◌+◌, ◌≤◌, List, [], ◌++◌, length, take, refl, sym, ap, ◌∙◌, subst, arith}
use Rattle.std.proofs.Common.{Option, Some, None, append_assoc, length-append, append-nil}
use Rattle.std.proofs.Math.Seq.{take-append-add}
use Rattle.std.proofs.lemmas.List.{take-append-le}
use Rattle.std.specs.Prelude.{Ok, Err}
use Rattle.qt_outside.specs.Causes.{Rose, Grows, PutCause}
use Rattle.qt_outside.specs.declared.faults.PutFault.{PutFault}
use Rattle.qt_outside.specs.declared.faults.PutFault.TheVariants as put
use Rattle.qt_lines.specs.Puts.{Seen, Follows, Whole, Part, IsCut}

follows_more : (before now after : Option (List ℕ)) (done piece : List ℕ) → Follows before now done → Follows now after piece
    → Follows before after (done ++ piece)
follows_more None None after done piece h k = k
follows_more None (Some now) after done piece h k = absurd (cc)
follows_more (Some old) None after done piece h k = absurd (cc)
follows_more (Some old) (Some now) after done piece h k =
    let e : now ≡ old ++ done = cc in
    k ∙ ap (λ t. Some (t ++ piece)) e ∙ ap Some (append_assoc old done piece)

-- nothing was put
pub nothing_put : (before : Seen) → Whole before before []
nothing_put before = record { bytes = none before.bytes; faults = refl; wants = refl }
  where
    none : (bytes : Option (List ℕ)) → Follows bytes bytes []
    none None = refl
    none (Some old) = ap Some (sym (append-nil old))

grown : (before after : Option (List ℕ)) (piece : List ℕ) → Grows before after piece (Ok tt) → Follows before after piece
grown None after piece h = h
grown (Some old) after piece h = h

-- one more piece was taken whole
pub more_put : (before now after : Seen) (done piece : List ℕ) → Whole before now done → Grows now.bytes after.bytes piece (Ok tt)
    → PutCause now.faults after.faults now.wants after.wants (Ok tt) → Whole before after (done ++ piece)
more_put before now after done piece w g c = record {
  bytes = follows_more before.bytes now.bytes after.bytes done piece w.bytes (grown now.bytes after.bytes piece g);
  faults = c.0 ∙ w.faults;
  wants = c.1 ∙ w.wants;
}

-- a sink that refused a piece took so many bytes of it
cut : (before after : Option (List ℕ)) (piece : List ℕ) (fault : PutFault) → Grows before after piece (Err fault)
    → (k : ℕ) × (k ≤ length piece) × Follows before after (take k piece)
cut None after piece fault h = (0, omega arith, h)
cut (Some old) after piece fault h = h

part_more : (before now after : Seen) (done piece behind : List ℕ) → Whole before now done
    → (k : ℕ) → k ≤ length piece → Follows now.bytes after.bytes (take k piece) → Part before after (done ++ (piece ++ behind))
part_more before now after done piece behind w k h f =
    let taken : take (length done + k) (done ++ (piece ++ behind)) ≡ done ++ take k piece =
    take-append-add done (piece ++ behind) k ∙ ap (λ t. done ++ t) (take-append-le k piece behind h) in
    record {
      taken = length done + k;
      within = omega (arith, length-append done (piece ++ behind), length-append piece behind);
      bytes = subst (λ t. Follows before.bytes after.bytes t) (sym taken)
          (follows_more before.bytes now.bytes after.bytes done (take k piece) w.bytes f);
    }

-- a piece was refused behind what was taken whole
pub cut_more : (before now after : Seen) (done piece behind : List ℕ) (fault : PutFault) → Whole before now done
    → Grows now.bytes after.bytes piece (Err fault) → PutCause now.faults after.faults now.wants after.wants (Err fault)
    → IsCut (done ++ (piece ++ behind)) before after fault
cut_more before now after done piece behind put.Failed w g c =
    let k = cut now.bytes after.bytes piece put.Failed g in
    (part_more before now after done piece behind w k.0 k.1 k.2, subst (λ n. Rose n after.faults) w.faults c.1)
cut_more before now after done piece behind put.OutOfMemory w g c =
    let k = cut now.bytes after.bytes piece put.OutOfMemory g in
    (part_more before now after done piece behind w k.0 k.1 k.2, subst (λ n. Rose n after.wants) w.wants c.2)
