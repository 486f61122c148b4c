use Rattle.std.proofs.Common.{refl, sym, ◌∙◌}
use Rattle.qt_kernel.proofs.Words.{parity-word}
use Rattle.qt_kernel.proofs.halving.is_even.Goals as goal

pub returns-then-both_even : goal.returns-then-both_even
returns-then-both_even c = (
  (λ t.
      let p = c.if-both_even.ensures.0 refl in
      let q = c.both_even-then-both_even.ensures.0 t in
      record {
        c0_even = sym (parity-word c.args.x.c0 c.requires.c0_in) ∙ p.0;
        c1_even = sym (parity-word c.args.x.c1 c.requires.c1_in) ∙ p.1;
        c2_even = sym (parity-word c.args.x.c2 c.requires.c2_in) ∙ q.0;
        c3_even = sym (parity-word c.args.x.c3 c.requires.c3_in) ∙ q.1;
      }),
  (λ e. c.both_even-then-both_even.ensures.1 (parity-word c.args.x.c2 c.requires.c2_in ∙ e.c2_even, parity-word c.args.x.c3 c.requires.c3_in ∙ e.c3_even)),
)
