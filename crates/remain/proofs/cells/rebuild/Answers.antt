-- `remain::cells::rebuild` meets its contract: the empty index, then the cells of one step after the other. Assumes nothing.
use mathlib.Core.Path.{ap, ◌∙◌}
use Prim.Native.Nat.{◌<◌}
use native.Mathlib.Omega.{arith}
use Rattle.whole.specs.Sums.{tab}
use Rattle.remain.specs.Remaining.{count}
use Rattle.remain.proofs.Covering.{zeros, covered_start, covered_more}
use Rattle.std.proofs.Common.{rules}
use Rattle.remain.proofs.cells.rebuild.Goals as goal

pub loop-i-init : goal.loop-i-init
loop-i-init c = covered_start (c.fill.ensures.after (λ y e. search rules) ∙ zeros _ ∙ ap (λ n. tab n (λ _. 0)) c.requires.width_bound.2)

pub loop-i-preserved : goal.loop-i-preserved
loop-i-preserved c =
    let h : c.loop-i.i < count c.args.s.now = omega (arith, c.word-i-end.ensures) in
    covered_more c.loop-i.invariant h (c.requires.s_bound.2.right c.loop-i.i h) (c.requires.s_bound.2.low c.loop-i.i h) c.cover.ensures
