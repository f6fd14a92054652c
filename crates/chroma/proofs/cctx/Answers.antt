-- `chroma::cctx` meets its contract: the answer is `judge`'s, and an answer of Done gives what the work asks. Assumes nothing.
use mathlib.Core.Path.{ap, ◌∙◌}
use mathlib.Core.List.{List}
use native.Mathlib.Omega.{arith}
use lib.IntN.{ℤ}
use mir.Syntax.{w32}
use mir.ValLaws.{to_z-of_z}
use Rattle.whole.proofs.Num.{back}
use Rattle.answers.specs.Answers.{done}
use Rattle.answers.proofs.Verdicts.{ends-err, ends-ok}
use Rattle.chroma.specs.Chroma.{low, high, turned, cctx_of}
use Rattle.chroma.proofs.Verdict.{accepted-done}
use Rattle.chroma.proofs.cctx.Goals as goal

pub returns-in-Err : goal.returns-in-Err
unfolding cctx_of
returns-in-Err c =
    rw c.from.ensures (ends-err (c.args.u.now, c.args.v.now) (turned (low c.args.bd) (high c.args.bd) c.args.sina c.args.cosa c.args.u.now c.args.v.now) c.in-Err.reason (rw (to_z-of_z w32 c.args.sina c.ranges.sina, to_z-of_z w32 c.args.cosa c.ranges.cosa) at c.in-Err.ensures))

pub overflow_add-bd : goal.overflow_add-bd
overflow_add-bd c = omega (arith, (accepted-done c.in-Ok.ensures).most)

pub low_end-lo-requires : goal.low_end-lo-requires
low_end-lo-requires c = omega (arith, (accepted-done c.in-Ok.ensures).most)

pub overflow_add-bd-in-Ok : goal.overflow_add-bd-in-Ok
overflow_add-bd-in-Ok c = omega (arith, (accepted-done c.in-Ok.ensures).most)

pub high_end-hi-requires : goal.high_end-hi-requires
high_end-hi-requires c = omega (arith, (accepted-done c.in-Ok.ensures).most)

pub turn_all-requires : goal.turn_all-requires
turn_all-requires c =
    let a = accepted-done c.in-Ok.ensures in
    record { u_len = (a.same, a.sine, a.cosine); within = (a.size-u, a.size-v) }

pub returns-in-Ok : goal.returns-in-Ok
unfolding cctx_of
returns-in-Ok c =
    rw c.finished.ensures (ap (λ (p : List ℤ × List ℤ). (done, p))
    (rw (to_z-of_z w32 c.args.sina c.ranges.sina, to_z-of_z w32 c.args.cosa c.ranges.cosa, back c.low_end-lo.type_inv ∙ c.low_end-lo.ensures, back c.high_end-hi.type_inv ∙ c.high_end-hi.ensures) at c.turn_all.ensures)
    ∙ ends-ok (c.args.u.now, c.args.v.now) (turned (low c.args.bd) (high c.args.bd) c.args.sina c.args.cosa c.args.u.now c.args.v.now) (rw (to_z-of_z w32 c.args.sina c.ranges.sina, to_z-of_z w32 c.args.cosa c.ranges.cosa) at c.in-Ok.ensures))
