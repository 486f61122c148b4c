use Rattle.std.proofs.Common.{◌^◌, pos, ◌*ℤ◌, ◌≤ℤ◌, rules, ap, ◌∙◌}
use Rattle.qt_root2.specs.declared.numerator.Numerator.{Numerator}
use Rattle.qt_root2.proofs.Good.{within, good_times}
use Rattle.qt_root2.proofs.Ring.{same_root2}
use Rattle.qt_root2.proofs.Words.{word, word-fits, word_times, word-first, word-root, ProductFits, product_fits}
use Rattle.qt_root2.proofs.numerator.Numerator.times.Goals as goal

steps : (x y : Numerator) → (x.a *ℤ y.a) ≤ℤ pos (2 ^ 125) → ProductFits x.a x.b y.a y.b
steps x y h = product_fits x.a x.b y.a y.b (within x.a x.b y.a y.b x.good y.good) h

pub overflow_mul-cross : goal.overflow_mul-cross
overflow_mul-cross c =
    let x = c.args.self in
    let y = c.args.other in
    let p = steps x y c.requires in
    rw (word_times x.b y.b (search rules) (search rules)) p.cross

pub overflow_mul-a-2 : goal.overflow_mul-a-2
overflow_mul-a-2 c =
    let x = c.args.self in
    let y = c.args.other in
    let p = steps x y c.requires in
    rw (word_times x.b y.b (search rules) (search rules), word-fits _ p.cross) p.twice

pub overflow_add-a : goal.overflow_add-a
overflow_add-a c =
    let x = c.args.self in
    let y = c.args.other in
    let p = steps x y c.requires in
    rw (word-first x.a x.b y.a y.b (search rules) (search rules) (search rules) (search rules) p) p.whole

pub overflow_mul-b : goal.overflow_mul-b
overflow_mul-b c =
    let x = c.args.self in
    let y = c.args.other in
    let p = steps x y c.requires in
    rw (word_times x.a y.b (search rules) (search rules)) p.left

pub overflow_mul-b-2 : goal.overflow_mul-b-2
overflow_mul-b-2 c =
    let x = c.args.self in
    let y = c.args.other in
    let p = steps x y c.requires in
    rw (word_times x.b y.a (search rules) (search rules)) p.right

pub overflow_add-b : goal.overflow_add-b
overflow_add-b c =
    let x = c.args.self in
    let y = c.args.other in
    let p = steps x y c.requires in
    rw (word-root x.a x.b y.a y.b (search rules) (search rules) (search rules) (search rules) p) p.root

pub invariant_of-result : goal.invariant_of-result
invariant_of-result c =
    let x = c.args.self in
    let y = c.args.other in
    let p = steps x y c.requires in
    let e = ap word (word-first x.a x.b y.a y.b (search rules) (search rules) (search rules) (search rules) p) ∙ word-fits _ p.whole in
    let f = ap word (word-root x.a x.b y.a y.b (search rules) (search rules) (search rules) (search rules) p) ∙ word-fits _ p.root in
    rw (e, f) record { good = good_times x.a x.b y.a y.b x.good y.good }

pub returns : goal.returns
returns c =
    let x = c.args.self in
    let y = c.args.other in
    let p = steps x y c.requires in
    let e = ap word (word-first x.a x.b y.a y.b (search rules) (search rules) (search rules) (search rules) p) ∙ word-fits _ p.whole in
    let f = ap word (word-root x.a x.b y.a y.b (search rules) (search rules) (search rules) (search rules) p) ∙ word-fits _ p.root in
    same_root2 _ _ e f
