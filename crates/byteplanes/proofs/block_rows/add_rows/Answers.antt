-- `byteplanes::block_rows::add_rows` meets its contract: after y turns the first y rows have gained, every other byte is as it was. Assumes nothing.
use mathlib.Core.Path.{sym, ap, ◌∙◌, subst}
use mathlib.Core.Bool.{cond}
use Prim.Native.Nat.{ℕ, ◌+◌, ◌*◌, ◌/◌, ◌%◌, ◌≤◌, ◌<◌}
use native.Mathlib.Nat as N
use native.Mathlib.Omega.{arith}
use lib.IntN.{pos}
use lib.ListN.{length, get_or}
use Rattle.whole.specs.Grid.{grid_of, in_block}
use Rattle.whole.proofs.Cells.{row_in}
use Rattle.whole.proofs.Fill.{tab-at, tab-same}
use Rattle.whole.proofs.Lent.{lent, lent_at, lent-count, lent-within, Rewriting, rewrite-now, rewrite-more, rewrite-done}
use Rattle.pixels.proofs.Served.{whole-sample}
use Rattle.byteplanes.specs.Bytes.{byte_of}
use Rattle.byteplanes.proofs.block_rows.add_rows.Goals as goal

pub gain_row-requires : goal.gain_row-requires
gain_row-requires c =
    let y = c.loop-y.y in
    let w = c.args.w in
    let inside : y * c.args.stride + w ≤ length c.loop-y.dst = omega (arith, c.requires.w_nonzero.2 y c.loop-y-test.true, c.loop-y.invariant.long) in
    let reach : y * w + w ≤ length c.args.work.now = row_in w c.loop-y-test.true c.requires.w_in_bounds.0 in (
      lent-within 4096 c.args.work.now (y * w) w reach (λ x h. c.requires.w_in_bounds.1 y x c.loop-y-test.true h),
      rw (lent-count 0 c.loop-y.dst (y * c.args.stride) w inside, lent-count (pos 0) c.args.work.now (y * w) w reach) (N.le_refl w),
    )

pub loop-y-preserved : goal.loop-y-preserved
loop-y-preserved c =
    let y = c.loop-y.y in
    let w = c.args.w in
    let a = y * c.args.stride in
    let row = lent a w c.loop-y.dst in
    let e = lent (y * w) w c.args.work.now in
    let end : a + w ≤ length c.args.dst.now = c.requires.w_nonzero.2 y c.loop-y-test.true in
    let inside : a + w ≤ length c.loop-y.dst = omega (arith, end, c.loop-y.invariant.long) in
    let reach : y * w + w ≤ length c.args.work.now = row_in w c.loop-y-test.true c.requires.w_in_bounds.0 in
    rewrite-more c.loop-y.invariant c.requires.w_nonzero.1 end _ (N.add-sub_cancel_left a w) c.gain_row.new.row c.gain_row.auto.row
    (λ x h. ap (λ l. get_or l x 0) c.gain_row.ensures
    ∙ tab-at 0 (length row) (λ x. byte_of (get_or row x 0) (get_or e x (pos 0))) x (subst (λ (n : ℕ). x < n) (sym (lent-count 0 c.loop-y.dst a w inside)) h)
    ∙ ap (λ p. byte_of p (get_or e x (pos 0))) (lent_at 0 c.loop-y.dst a w inside x h ∙ rewrite-now c.loop-y.invariant c.requires.w_nonzero.1 x h)
    ∙ ap (byte_of (get_or c.args.dst.now (a + x) 0)) (lent_at (pos 0) c.args.work.now (y * w) w reach x h))

pub returns : goal.returns
returns c =
    let dst = c.args.dst.now in
    let stride = c.args.stride in
    let w = c.args.w in
    -- what row r holds at x afterwards
    let rule : ℕ → ℕ → ℕ = λ r x. byte_of (get_or dst (r * stride + x) 0) (grid_of w c.args.work.now r x) in
    rewrite-done {f = rule} c.args.h (subst (λ (n : ℕ). Rewriting 0 stride w rule dst c.loop-y.dst n) (omega (arith, c.loop-y.auto.y-end, c.loop-y-test.false)) c.loop-y.invariant) c.requires.w_nonzero.1 c.requires.w_nonzero.0
    ∙ tab-same (length dst) _ _ (λ i h. ap (λ z. cond (in_block stride w c.args.h i) z (get_or dst i 0)) (whole-sample (λ j. byte_of (get_or dst j 0) (grid_of w c.args.work.now (i / stride) (i % stride))) stride i))
