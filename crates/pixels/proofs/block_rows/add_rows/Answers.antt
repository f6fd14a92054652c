-- `pixels::block_rows::add_rows` meets its contract: after y turns the first y rows have gained, every other sample is as it was. Assumes nothing.
use mathlib.Core.Path.{◌≡◌, sym, ap, ◌∙◌, subst}
use mathlib.Core.Bool.{cond}
use Prim.Native.Nat.{ℕ, ◌+◌, ◌*◌, ◌-◌, ◌/◌, ◌%◌, ◌^◌, ◌≤◌, ◌<◌}
use native.Mathlib.Nat as N
use native.Mathlib.Omega.{arith}
use lib.IntN.{ℤ, pos, nat_abs, ◌+ℤ◌}
use lib.ListN.{length, get_or}
use mir.Syntax.{w32}
use mir.Val.{to_z, of_z}
use mir.ValLaws.{to_z-of_z}
use Rattle.whole.specs.Numbers.{clamp}
use Rattle.whole.specs.Grid.{grid_of, in_block}
use Rattle.whole.proofs.Fill.{tab-same}
use Rattle.whole.proofs.Lent.{lent, lent_at, lent-count, lent-within, Rewriting, rewrite-now, rewrite-more, rewrite-done}
use Rattle.pixels.specs.Rows.{served}
use Rattle.pixels.proofs.Served.{row-gained, whole-sample}
use Rattle.pixels.proofs.block_rows.add_rows.Goals as goal

pub add_row-requires : goal.add_row-requires
add_row-requires c =
    let y = c.loop-y.y in
    let w = c.args.w in
    let a = y * c.args.stride in
    let t = (y / 2 ^ c.args.down) * c.args.sw in
    let l = c.loop-y-test.true in
    let inside : a + w ≤ length c.loop-y.dst = omega (arith, c.requires.w_nonzero.2 y l, c.loop-y.invariant.long) in
    let reach : t + c.args.sw ≤ length c.args.work.now = c.requires.residuals.row y l in (
      lent-within 4096 c.loop-y.dst a w inside (λ x h. subst (λ (z : ℤ). nat_abs z ≤ 4096) (sym (rewrite-now c.loop-y.invariant c.requires.w_nonzero.1 x h)) (c.requires.w_nonzero.3 y x l h)),
      lent-within 4096 c.args.work.now t c.args.sw reach (λ x h. c.requires.residuals.small y x l h),
      c.requires.residuals.few,
      λ x h. rw (lent-count (pos 0) c.args.work.now t c.args.sw reach) (c.requires.residuals.column x (subst (λ (n : ℕ). x < n) (lent-count (pos 0) c.loop-y.dst a w inside) h)),
    )

pub loop-y-preserved : goal.loop-y-preserved
loop-y-preserved c =
    let y = c.loop-y.y in
    let w = c.args.w in
    let a = y * c.args.stride in
    let t = (y / 2 ^ c.args.down) * c.args.sw in
    let l = c.loop-y-test.true in
    let end : a + w ≤ length c.args.dst.now = c.requires.w_nonzero.2 y l in
    let inside : a + w ≤ length c.loop-y.dst = omega (arith, end, c.loop-y.invariant.long) in
    let reach : t + c.args.sw ≤ length c.args.work.now = c.requires.residuals.row y l in
    rewrite-more c.loop-y.invariant c.requires.w_nonzero.1 end _ (N.add-sub_cancel_left a w) c.add_row.new.row c.add_row.auto.row
    (λ x h. ap (λ l. get_or l x (pos 0)) c.add_row.ensures
    ∙ row-gained (pos 0) (λ z. z) (to_z w32 (of_z w32 c.args.hi)) (lent a w c.loop-y.dst) (lent t c.args.sw c.args.work.now) c.args.across w c.args.sw (λ x. get_or c.args.dst.now (a + x) (pos 0)) (grid_of c.args.sw c.args.work.now (y / 2 ^ c.args.down))
    (λ x h. lent_at (pos 0) c.loop-y.dst a w inside x h ∙ rewrite-now c.loop-y.invariant c.requires.w_nonzero.1 x h) (lent_at (pos 0) c.args.work.now t c.args.sw reach) c.requires.residuals.column _ (lent-count (pos 0) c.loop-y.dst a w inside) x h)

pub returns : goal.returns
returns c =
    let dst = c.args.dst.now in
    let stride = c.args.stride in
    -- what row r holds at x afterwards, and what that is at index i
    let gives : ℕ → ℕ → ℤ = served c.args.sw c.args.across c.args.down c.args.work.now in
    let rule : ℕ → ℕ → ℤ = λ r x. clamp (pos 0) (to_z w32 (of_z w32 c.args.hi)) (get_or dst (r * stride + x) (pos 0) +ℤ gives r x) in
    let at : (i : ℕ) → rule (i / stride) (i % stride) ≡ clamp (pos 0) c.args.hi (get_or dst i (pos 0) +ℤ gives (i / stride) (i % stride)) =
    λ i. ap (λ z. clamp (pos 0) z (get_or dst ((i / stride) * stride + i % stride) (pos 0) +ℤ gives (i / stride) (i % stride))) (to_z-of_z w32 c.args.hi c.ranges.hi)
    ∙ whole-sample (λ j. clamp (pos 0) c.args.hi (get_or dst j (pos 0) +ℤ gives (i / stride) (i % stride))) stride i in
    rewrite-done {f = rule} c.args.h (subst (λ (n : ℕ). Rewriting (pos 0) stride c.args.w rule dst c.loop-y.dst n) (omega (arith, c.loop-y.auto.y-end, c.loop-y-test.false)) c.loop-y.invariant) c.requires.w_nonzero.1 c.requires.w_nonzero.0
    ∙ tab-same (length dst) _ _ (λ i h. ap (λ z. cond (in_block stride c.args.w c.args.h i) z (get_or dst i (pos 0))) (at i))
