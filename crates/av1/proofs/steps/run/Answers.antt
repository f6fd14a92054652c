-- `av1::steps::run` meets its contract: what is left of the table leads to the same end. Assumes nothing.
use mathlib.Core.Path.{refl, sym}
use Prim.Native.Nat.{◌/◌, ◌<◌}
use native.Mathlib.Omega.{arith}
use lib.ListN.{length}
use Rattle.std.proofs.lemmas.Result.{err_from_is_err_and}
use Rattle.answers.proofs.Verdicts.{refuses}
use Rattle.av1.proofs.Chunks.{numbers-at}
use Rattle.av1.proofs.Going.{going_start, going-room, going-stop, going_more, going_end}
use Rattle.av1.proofs.steps.run.Goals as goal

pub loop-a-init : goal.loop-a-init
loop-a-init c =
    going_start _ _ _ _ (length c.args.w.now) _ _ _ refl c.requires.program.2 c.requires.w_bound c.requires.program.0.lawful

pub step-requires : goal.step-requires
step-requires c =
    let g = c.loop-a.invariant in
    let f = c.as_chunks.ensures in
    let k = c.loop-a.a-index in
    let h : k < length c.args.ops.now / 3 = omega (arith, f.front_len) in
    let n = numbers-at _ _ _ k f.front h in
    (rw (g.long, n.0, n.1, n.2) (going-room _ _ _ _ g h), c.requires.program.1, omega (arith, g.near, c.requires.program.0.few))

pub returns-in_err-p : goal.returns-in_err-p
returns-in_err-p c =
    let r = err_from_is_err_and c.from_residual.result c.from_residual.ensures.1 in
    let f = c.as_chunks.ensures in
    let k = c.loop-a.a-index in
    let h : k < length c.args.ops.now / 3 = omega (arith, f.front_len) in
    let n = numbers-at _ _ _ k f.front h in
    let e = rw (n.0, n.1, n.2) at c.in_err-p.ensures in
    rw (r.1, r.2) (going-stop _ _ _ _ c.loop-a.invariant h _ e (refuses c.in_err-p.field-0.0))

pub loop-a-preserved : goal.loop-a-preserved
loop-a-preserved c =
    let f = c.as_chunks.ensures in
    let k = c.loop-a.a-index in
    let h : k < length c.args.ops.now / 3 = omega (arith, f.front_len) in
    let n = numbers-at _ _ _ k f.front h in
    let e = rw (n.0, n.1, n.2) at c.in_ok-p.ensures in
    going_more _ _ _ _ c.loop-a.invariant h _ e c.args.ends.small.0 c.args.ends.small.1 c.requires.program.1 refl

pub returns : goal.returns
returns c =
    (sym (going_end _ _ _ _ c.loop-a.invariant (omega (arith, c.as_chunks.ensures.front_len))))
