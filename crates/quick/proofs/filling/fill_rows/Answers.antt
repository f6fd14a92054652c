-- `quick::filling::fill_rows` meets its contract: after y turns the first y rows hold their pixels, every other place what it held. Assumes nothing.
use Rattle.std.proofs.Common.{◌≡◌, ◌+◌, ◌*◌, ◌/◌, ◌^◌, ◌≤◌, ◌<◌, pos, length, get_or, ℕ, arith, ap, sym, ◌∙◌, subst}
use native.Mathlib.Nat as N
use lib.Ieee.{Float}
use Rattle.whole.specs.Sums.{Within}
use Rattle.whole.proofs.Fill.{within-tab}
use Rattle.whole.proofs.Lent.{lent, lent_at, lent-count, lent-within}
use Rattle.wide_rows.specs.Lines.{line}
use Rattle.narrow.specs.Painted.{Painted}
use Rattle.narrow.proofs.Paints.{paint-more}
use Rattle.fast.specs.Gains.{residual_by, gains_of}
use Rattle.fast.proofs.Gained.{row-gained}
use Rattle.pixels.specs.Pixels.{pixel_f}
use Rattle.quick.proofs.filling.fill_rows.Goals as goal

pub fill_row-requires : goal.fill_row-requires
fill_row-requires c =
    let y = c.loop-y.y in
    let w = c.args.w in
    let a = c.args.from + y * c.args.stride in
    let s = c.requires.shown in
    let inside : a + w ≤ length c.loop-y.out = omega (arith, s.1 y c.loop-y-test.true) in
    let known : a + w ≤ length c.args.pred.now = s.0.inside y c.loop-y-test.true in (
      lent-count (pixel_f (pos 0)) c.loop-y.out a w inside ∙ sym (lent-count (pos 0) c.args.pred.now a w known),
      lent-within 4096 c.args.pred.now a w known (λ x h. s.0.small y x c.loop-y-test.true h),
      subst (Within (2 ^ 30)) (sym c.row_of-e.ensures) (within-tab (2 ^ 30) 16 (λ l. line c.args.res.now l (y / 2 ^ c.args.down)) (c.requires.by_index y c.loop-y-test.true).1),
      s.2,
      (λ x h. s.5 x (subst (λ (n : ℕ). x < n) (lent-count (pixel_f (pos 0)) c.loop-y.out a w inside) h)),
      s.4,
    )

pub loop-y-preserved : goal.loop-y-preserved
loop-y-preserved c =
    let y = c.loop-y.y in
    let w = c.args.w in
    let a = c.args.from + y * c.args.stride in
    let s = c.requires.shown in
    let f : ℕ → ℕ → Float = λ y x. pixel_f (gains_of c.args.pred.now c.args.from c.args.stride (residual_by c.args.shift c.args.across c.args.down (λ r x. line c.args.res.now x r)) y x) in
    let end : a + w ≤ length c.args.out.now = s.1 y c.loop-y-test.true in
    let inside : a + w ≤ length c.loop-y.out = omega (arith, end) in
    let known : a + w ≤ length c.args.pred.now = s.0.inside y c.loop-y-test.true in
    paint-more {f = f} c.loop-y.invariant s.0.wide end _ (N.add-sub_cancel_left a w) c.fill_row.new.out c.fill_row.auto.out
    (λ x h. ap (λ l. get_or l x (pixel_f (pos 0))) c.fill_row.ensures
    ∙ row-gained (pixel_f (pos 0)) pixel_f c.args.shift c.args.across w (lent a w c.args.pred.now) c.row_of-e.result (λ x. get_or c.args.pred.now (a + x) (pos 0)) (λ l. line c.args.res.now l (y / 2 ^ c.args.down))
    (lent_at (pos 0) c.args.pred.now a w known) c.row_of-e.ensures s.5 _ (lent-count (pixel_f (pos 0)) c.loop-y.out a w inside) x h)

pub returns : goal.returns
returns c =
    let f : ℕ → ℕ → Float = λ y x. pixel_f (gains_of c.args.pred.now c.args.from c.args.stride (residual_by c.args.shift c.args.across c.args.down (λ r x. line c.args.res.now x r)) y x) in
    let e : c.loop-y.y ≡ c.args.h = omega arith in
    subst (λ (n : ℕ). Painted (pixel_f (pos 0)) c.args.from c.args.stride c.args.w n f c.args.out.now c.loop-y.out) e c.loop-y.invariant
