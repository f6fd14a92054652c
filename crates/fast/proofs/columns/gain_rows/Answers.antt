-- `fast::columns::gain_rows` meets its contract: after y turns the first y rows have gained, every other sample is as it was. Assumes nothing.
use Rattle.std.proofs.Common.{◌≡◌, ◌+◌, ◌*◌, ◌/◌, ◌^◌, ◌≤◌, ◌<◌, pos, nat_abs, length, get_or, ℕ, ℤ, arith, ap, sym, ◌∙◌, subst}
use native.Mathlib.Nat as N
use Rattle.whole.specs.Sums.{Within}
use Rattle.whole.proofs.Fill.{within-tab}
use Rattle.whole.proofs.Lent.{lent, lent_at, lent-count, lent-within}
use Rattle.wide_rows.specs.Lines.{line}
use Rattle.narrow.specs.Painted.{Painted}
use Rattle.narrow.proofs.Paints.{paint-now, paint-more}
use Rattle.fast.specs.Gains.{residual_by, gains_of}
use Rattle.fast.proofs.Gained.{row-gained}
use Rattle.fast.proofs.columns.gain_rows.Goals as goal

pub gain_row-requires : goal.gain_row-requires
gain_row-requires c =
    let y = c.loop-y.y in
    let w = c.args.w in
    let a = c.args.from + y * c.args.stride in
    let s = c.requires.shown in
    let inside : a + w ≤ length c.loop-y.dst = omega (arith, s.0.inside y c.loop-y-test.true) in
    let still : (x : ℕ) → x < w → get_or c.loop-y.dst (a + x) (pos 0) ≡ get_or c.args.dst.now (a + x) (pos 0) = paint-now c.loop-y.invariant s.0.wide in (
      lent-within 4096 c.loop-y.dst a w inside (λ x h. subst (λ (z : ℤ). nat_abs z ≤ 4096) (sym (still x h)) (s.0.small y x c.loop-y-test.true h)),
      subst (Within (2 ^ 30)) (sym c.row_of-e.ensures) (within-tab (2 ^ 30) 16 (λ l. line c.args.out.now l (y / 2 ^ c.args.down)) (c.requires.by_index y c.loop-y-test.true).1),
      s.1,
      (λ x h. s.4 x (subst (λ (n : ℕ). x < n) (lent-count (pos 0) c.loop-y.dst a w inside) h)),
      s.3,
    )

pub loop-y-preserved : goal.loop-y-preserved
loop-y-preserved c =
    let y = c.loop-y.y in
    let w = c.args.w in
    let a = c.args.from + y * c.args.stride in
    let s = c.requires.shown in
    let f : ℕ → ℕ → ℤ = gains_of c.args.dst.now c.args.from c.args.stride (residual_by c.args.shift c.args.across c.args.down (λ r x. line c.args.out.now x r)) in
    let end : a + w ≤ length c.args.dst.now = s.0.inside y c.loop-y-test.true in
    let inside : a + w ≤ length c.loop-y.dst = omega (arith, end) in
    let still : (x : ℕ) → x < w → get_or c.loop-y.dst (a + x) (pos 0) ≡ get_or c.args.dst.now (a + x) (pos 0) = paint-now c.loop-y.invariant s.0.wide in
    paint-more {f = f} c.loop-y.invariant s.0.wide end _ (N.add-sub_cancel_left a w) c.gain_row.new.row c.gain_row.auto.row
    (λ x h. ap (λ l. get_or l x (pos 0)) c.gain_row.ensures
    ∙ row-gained (pos 0) (λ z. z) c.args.shift c.args.across w (lent a w c.loop-y.dst) c.row_of-e.result (λ x. get_or c.args.dst.now (a + x) (pos 0)) (λ l. line c.args.out.now l (y / 2 ^ c.args.down))
    (λ x h. lent_at (pos 0) c.loop-y.dst a w inside x h ∙ still x h) c.row_of-e.ensures s.4 _ (lent-count (pos 0) c.loop-y.dst a w inside) x h)

pub returns : goal.returns
returns c =
    let f : ℕ → ℕ → ℤ = gains_of c.args.dst.now c.args.from c.args.stride (residual_by c.args.shift c.args.across c.args.down (λ r x. line c.args.out.now x r)) in
    let e : c.loop-y.y ≡ c.args.h = omega arith in
    subst (λ (n : ℕ). Painted (pos 0) c.args.from c.args.stride c.args.w n f c.args.dst.now c.loop-y.dst) e c.loop-y.invariant
