use Rattle.std.proofs.Common.{◌≡◌, ◌∙◌, ◌++◌, ℕ, List, ap, sym, subst, take, drop, append_assoc}
use Rattle.std.proofs.lemmas.List.{take-append-drop}
use Rattle.qt_lines.specs.Puts.{seen, IsCut}
use Rattle.qt_lines.proofs.Putting.{more_put, cut_more}
use Rattle.qt_lines.proofs.cut.put_lines.Goals as goal

-- the rest, cut into a line and what stands behind it
pieces : (rest line behind : List ℕ) (n : ℕ) → line ≡ take n rest → behind ≡ drop n rest → rest ≡ line ++ behind
pieces rest line behind n e f =
    sym (take-append-drop n rest) ∙ ap (λ (t : List ℕ). t ++ drop n rest) (sym e) ∙ ap (λ (t : List ℕ). line ++ t) (sym f)

pub loop-rest-preserved : goal.loop-rest-preserved
loop-rest-preserved g c =
    let line = c.split_at.result.0.now in
    let behind = c.split_at.result.1.now in
    let done = c.loop-rest.invariant.0 in
    let rest = pieces c.loop-rest.rest.now line behind c.first_line.result c.split_at.ensures.front c.split_at.ensures.back in (
      done ++ line,
      c.loop-rest.invariant.1 ∙ ap (λ (t : List ℕ). done ++ t) rest ∙ sym (append_assoc done line behind),
      more_put _ _ _ done line c.loop-rest.invariant.2 c.in_default.ensures.bytes c.in_default.ensures.cause,
    )

pub returns-in-Err-clause-refused : goal.returns-in-Err-clause-refused
returns-in-Err-clause-refused g c =
    let line = c.split_at.result.0.now in
    let behind = c.split_at.result.1.now in
    let done = c.loop-rest.invariant.0 in
    let rest = pieces c.loop-rest.rest.now line behind c.first_line.result c.split_at.ensures.front c.split_at.ensures.back in
    let text : c.args.text.now ≡ done ++ (line ++ behind) = c.loop-rest.invariant.1 ∙ ap (λ (t : List ℕ). done ++ t) rest in
    let before = seen g.O.Sink.bytes g.O.Sink.faults g.O.Sink.wants c.args.out.now in
    let after = seen g.O.Sink.bytes g.O.Sink.faults g.O.Sink.wants c.put.new.self in
    subst (λ (t : List ℕ). IsCut t before after c.in-Err.fault) (sym text)
    (cut_more _ _ _ done line behind c.in-Err.fault c.loop-rest.invariant.2 c.in-Err.ensures.bytes c.in-Err.ensures.cause)
