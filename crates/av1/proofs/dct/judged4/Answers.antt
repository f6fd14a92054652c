-- `av1::dct::judged4` meets its contract: the four tests, in their order. Assumes nothing.
use mir.Syntax.{w32}
use mir.ValLaws.{to_z-of_z}
use Rattle.std.proofs.lemmas.Result.{err_from_is_err_and}
use Rattle.whole.specs.Numbers.{in_range}
use Rattle.av1.specs.Four.{four_verdict}
use Rattle.av1.proofs.Between.{fits, said}
use Rattle.av1.proofs.dct.judged4.Goals as goal

pub returns-in_err-between : goal.returns-in_err-between
unfolding four_verdict
returns-in_err-between c =
    let r = err_from_is_err_and c.from_residual.result c.from_residual.ensures.1 in
    let e = c.in_err-between.ensures in
    rw (r.1, r.2, e.1, fits _ _ (to_z-of_z w32 c.args.p c.ranges.p) e.0)

pub returns-in_err-between-2 : goal.returns-in_err-between-2
unfolding four_verdict
returns-in_err-between-2 c =
    let r = err_from_is_err_and c.from_residual-in_err-between-2.result c.from_residual-in_err-between-2.ensures.1 in
    let e = c.in_err-between-2.ensures in
    rw (r.1, r.2, e.1, fits _ _ (to_z-of_z w32 c.args.p c.ranges.p) c.in_ok-between.ensures, fits _ _ (to_z-of_z w32 c.args.q c.ranges.q) e.0)

pub returns-in_err-between-3 : goal.returns-in_err-between-3
unfolding four_verdict
returns-in_err-between-3 c =
    let r = err_from_is_err_and c.from_residual-in_err-between-3.result c.from_residual-in_err-between-3.ensures.1 in
    let e = c.in_err-between-3.ensures in
    rw (r.1, r.2, e.1, fits _ _ (to_z-of_z w32 c.args.p c.ranges.p) c.in_ok-between.ensures, fits _ _ (to_z-of_z w32 c.args.q c.ranges.q) c.in_ok-between-2.ensures, fits _ _ (to_z-of_z w32 c.args.r c.ranges.r) e.0)

pub returns : goal.returns
unfolding four_verdict
returns c =
    rw (fits _ _ (to_z-of_z w32 c.args.p c.ranges.p) c.in_ok-between.ensures, fits _ _ (to_z-of_z w32 c.args.q c.ranges.q) c.in_ok-between-2.ensures, fits _ _ (to_z-of_z w32 c.args.r c.ranges.r) c.in_ok-between-3.ensures)
    (said c.between-4.result (in_range c.args.ends.lo c.args.ends.hi c.args.s) 7 (rw (to_z-of_z w32 c.args.s c.ranges.s) at c.between-4.ensures))
