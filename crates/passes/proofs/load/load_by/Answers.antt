-- `passes::load::load_by` meets its contract: after r turns the first r rows hold their live coefficients. Assumes nothing.
use mathlib.Core.Path.{ap, ◌∙◌}
use Prim.Native.Nat.{ℕ, ◌+◌, ◌*◌, ◌≤◌, ◌<◌}
use native.Mathlib.Nat as N
use native.Mathlib.Omega.{arith}
use lib.IntN.{ℤ, pos}
use lib.ListN.{length, get_or}
use mir.Syntax.{w32}
use mir.Val.{to_z, of_z}
use Rattle.whole.specs.Numbers.{clamp}
use Rattle.whole.specs.Sums.{tab}
use Rattle.whole.proofs.Cells.{row_in}
use Rattle.whole.proofs.Fill.{tab-at}
use Rattle.whole.proofs.Lent.{lent-count, rewrite-more}
use Rattle.passes.specs.Passes.{scaling}
use Rattle.passes.proofs.load.load_by.Goals as goal

pub loop-r-preserved : goal.loop-r-preserved
loop-r-preserved c =
    let w = c.args.cols in
    let a = c.loop-r.r * c.args.sw in
    -- what the row holds at x, by the two ends as the machine has them
    let rule : ℕ → ℤ = λ x. clamp (to_z w32 (of_z w32 c.low_end-lo.result)) (to_z w32 (of_z w32 c.high_end-hi.result)) (scaling c.args.scale (get_or c.args.coeff.now (c.loop-r.r * c.args.down + x * c.args.across) (pos 0))) in
    let l : c.loop-r.r < c.args.sh = omega arith in
    let end : a + w ≤ length c.args.work.now = omega (arith, row_in c.args.sw l c.requires.cols_le_sw.2, c.requires.cols_le_sw.0) in
    rewrite-more c.loop-r.invariant c.requires.cols_le_sw.0 end _ (N.add-sub_cancel_left a w) c.load_row.new.row c.load_row.auto.row
    (λ x q. ap (λ l. get_or l x (pos 0)) c.load_row.ensures ∙ ap (λ m. get_or (tab m rule) x (pos 0)) (lent-count (pos 0) c.loop-r.work a w (omega (arith, end, c.loop-r.invariant.long))) ∙ tab-at (pos 0) w rule x q)
