use Rattle.std.proofs.Common.{◌≡◌, ◌^◌, pos, rules, arith}
use Rattle.std.proofs.lemmas.Int.{ints}
use Rattle.std.proofs.lemmas.Result.{IfOk-weaker, on_err_weaker, err_from_is_err_and}
use Rattle.qt_root2.specs.declared.numerator.Numerator.{Numerator}
use Rattle.qt_root2.specs.Numerators.{root2_of}
use Rattle.qt_root2.specs.Root2.{times_root2}
use Rattle.qt_root2.specs.Scaling.{unit_power, lifted_root2, IsScaled}
use Rattle.qt_root2.proofs.Scales.{read_scale, down_ok, down_none, down_large, up_ok, up_none, up_large}
use Rattle.qt_root2.proofs.Words.{short, short_negative, short_positive}
use Rattle.qt_root2.proofs.numerator.Numerator.scaled.Goals as goal

pub returns-in_err-quotient-clause-fault : goal.returns-in_err-quotient-clause-fault
returns-in_err-quotient-clause-fault c =
    let by = c.args.by in
    let n = c.unsigned_abs-twos.result in
    let l = short_negative by.twos (search rules) c.if-by-lt0.true in
    let s = read_scale by n (search rules) (search rules) c.unsigned_abs-twos.ensures.value in
    let p = err_from_is_err_and c.from_residual.result c.from_residual.ensures.1 in
    rw p.1 (down_none by (root2_of c.args.self) (pos (2 ^ 100)) n s l c.in_err-quotient.ensures.fault)

pub returns-in_ok-quotient-clause-ok : goal.returns-in_ok-quotient-clause-ok
returns-in_ok-quotient-clause-ok c =
    let by = c.args.by in
    let x = root2_of c.args.self in
    let q = root2_of c.in_ok-quotient.quotient in
    let n = c.unsigned_abs-twos.result in
    let l = short_negative by.twos (search rules) c.if-by-lt0.true in
    let s = read_scale by n (search rules) (search rules) c.unsigned_abs-twos.ensures.value in
    let Was = λ (r : Numerator). root2_of r ≡ times_root2 q (unit_power (short by.units)) in
    let Is = λ (r : Numerator). IsScaled by x (root2_of r) in
    IfOk-weaker c.times_units.result Was Is (λ r h. down_ok by x q (root2_of r) n s l c.in_ok-quotient.ensures.ok h) c.times_units.ensures.ok

pub returns-in_ok-quotient-clause-fault : goal.returns-in_ok-quotient-clause-fault
returns-in_ok-quotient-clause-fault c =
    let by = c.args.by in
    let x = root2_of c.args.self in
    let q = root2_of c.in_ok-quotient.quotient in
    let n = c.unsigned_abs-twos.result in
    let l = short_negative by.twos (search rules) c.if-by-lt0.true in
    let s = read_scale by n (search rules) (search rules) c.unsigned_abs-twos.ensures.value in
    on_err_weaker c.times_units.result (down_large by x q (pos (2 ^ 100)) n s l c.in_ok-quotient.ensures.ok) c.times_units.ensures.fault

pub returns-in_err-product-clause-fault : goal.returns-in_err-product-clause-fault
returns-in_err-product-clause-fault c =
    let by = c.args.by in
    let n = c.unsigned_abs-twos.result in
    let l = short_positive by.twos (search rules) c.if-by-lt0.false in
    let s = read_scale by n (search rules) (search rules) c.unsigned_abs-twos.ensures.value in
    let r = c.from_residual-in_err-product in
    let p = err_from_is_err_and r.result r.ensures.1 in
    rw p.1 (up_none by (root2_of c.args.self) (pos (2 ^ 100)) n s l (omega (arith, ints)) c.in_err-product.ensures.fault)

pub returns-in_ok-product-clause-ok : goal.returns-in_ok-product-clause-ok
returns-in_ok-product-clause-ok c =
    let by = c.args.by in
    let x = root2_of c.args.self in
    let p = root2_of c.in_ok-product.product in
    let n = c.unsigned_abs-twos.result in
    let l = short_positive by.twos (search rules) c.if-by-lt0.false in
    let s = read_scale by n (search rules) (search rules) c.unsigned_abs-twos.ensures.value in
    let Was = λ (r : Numerator). root2_of r ≡ lifted_root2 p n in
    let Is = λ (r : Numerator). IsScaled by x (root2_of r) in
    IfOk-weaker c.doublings.result Was Is (λ r h. up_ok by x p (root2_of r) n s l c.in_ok-product.ensures.ok h) c.doublings.ensures.ok

pub returns-in_ok-product-clause-fault : goal.returns-in_ok-product-clause-fault
returns-in_ok-product-clause-fault c =
    let by = c.args.by in
    let x = root2_of c.args.self in
    let p = root2_of c.in_ok-product.product in
    let n = c.unsigned_abs-twos.result in
    let l = short_positive by.twos (search rules) c.if-by-lt0.false in
    let s = read_scale by n (search rules) (search rules) c.unsigned_abs-twos.ensures.value in
    on_err_weaker c.doublings.result (up_large by x p (pos (2 ^ 100)) n s l c.in_ok-product.ensures.ok) c.doublings.ensures.fault
