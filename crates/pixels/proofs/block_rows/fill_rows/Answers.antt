-- `pixels::block_rows::fill_rows` meets its contract: after y turns the first y rows hold their pixels, every other number is as it was. Assumes nothing.
use mathlib.Core.Path.{◌≡◌, ap, ◌∙◌, subst}
use mathlib.Core.Bool.{cond}
use Prim.Native.Nat.{ℕ, ◌+◌, ◌*◌, ◌-◌, ◌/◌, ◌%◌, ◌^◌, ◌≤◌}
use native.Mathlib.Nat as N
use native.Mathlib.Omega.{arith}
use lib.Ieee.{Float}
use lib.IntN.{ℤ, pos, ◌+ℤ◌}
use lib.ListN.{length, get_or}
use mir.Syntax.{w32}
use mir.Val.{to_z, of_z}
use mir.ValLaws.{to_z-of_z}
use Rattle.whole.specs.Numbers.{clamp}
use Rattle.whole.specs.Grid.{grid_of, in_block}
use Rattle.whole.proofs.Cells.{row_in}
use Rattle.whole.proofs.Fill.{tab-same}
use Rattle.whole.proofs.Lent.{lent, lent_at, lent-count, Rewriting, rewrite-more, rewrite-done}
use Rattle.pixels.specs.Pixels.{pixel_f}
use Rattle.pixels.specs.Rows.{served}
use Rattle.pixels.proofs.Served.{row-gained, whole-sample}
use Rattle.pixels.proofs.block_rows.fill_rows.Goals as goal

pub loop-y-preserved : goal.loop-y-preserved
loop-y-preserved c =
    let y = c.loop-y.y in
    let w = c.args.w in
    let a = y * w in
    let t = (y / 2 ^ c.args.down) * c.args.sw in
    let l = c.loop-y-test.true in
    let end : a + w ≤ length c.args.out.now = row_in w l c.requires.w_nonzero.1 in
    let known : a + w ≤ length c.args.pred.now = row_in w l c.requires.w_nonzero.2 in
    let inside : a + w ≤ length c.loop-y.out = omega (arith, end, c.loop-y.invariant.long) in
    let reach : t + c.args.sw ≤ length c.args.work.now = c.requires.residuals.row y l in
    rewrite-more c.loop-y.invariant (N.le_refl w) end _ (N.add-sub_cancel_left a w) c.fill_row.new.out c.fill_row.auto.out
    (λ x h. ap (λ l. get_or l x (pixel_f (pos 0))) c.fill_row.ensures
    ∙ row-gained (pixel_f (pos 0)) pixel_f (to_z w32 (of_z w32 c.args.hi)) (lent a w c.args.pred.now) (lent t c.args.sw c.args.work.now) c.args.across w c.args.sw (λ x. get_or c.args.pred.now (a + x) (pos 0)) (grid_of c.args.sw c.args.work.now (y / 2 ^ c.args.down))
    (lent_at (pos 0) c.args.pred.now a w known) (lent_at (pos 0) c.args.work.now t c.args.sw reach) c.requires.residuals.column _ (lent-count (pixel_f (pos 0)) c.loop-y.out a w inside) x h)

pub returns : goal.returns
returns c =
    let out = c.args.out.now in
    let pred = c.args.pred.now in
    let w = c.args.w in
    -- what row r holds at x afterwards, and what that is at index i
    let gives : ℕ → ℕ → ℤ = served c.args.sw c.args.across c.args.down c.args.work.now in
    let rule : ℕ → ℕ → Float = λ r x. pixel_f (clamp (pos 0) (to_z w32 (of_z w32 c.args.hi)) (get_or pred (r * w + x) (pos 0) +ℤ gives r x)) in
    let at : (i : ℕ) → rule (i / w) (i % w) ≡ pixel_f (clamp (pos 0) c.args.hi (get_or pred i (pos 0) +ℤ gives (i / w) (i % w))) =
    λ i. ap (λ z. pixel_f (clamp (pos 0) z (get_or pred ((i / w) * w + i % w) (pos 0) +ℤ gives (i / w) (i % w)))) (to_z-of_z w32 c.args.hi c.ranges.hi)
    ∙ whole-sample (λ j. pixel_f (clamp (pos 0) c.args.hi (get_or pred j (pos 0) +ℤ gives (i / w) (i % w)))) w i in
    rewrite-done {f = rule} c.args.h (subst (λ (n : ℕ). Rewriting (pixel_f (pos 0)) w w rule out c.loop-y.out n) (omega (arith, c.loop-y.auto.y-end, c.loop-y-test.false)) c.loop-y.invariant) (N.le_refl w) c.requires.w_nonzero.0
    ∙ tab-same (length out) _ _ (λ i h. ap (λ z. cond (in_block w w c.args.h i) z (get_or out i (pixel_f (pos 0)))) (at i))
