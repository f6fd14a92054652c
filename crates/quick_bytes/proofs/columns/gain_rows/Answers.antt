-- `quick_bytes::columns::gain_rows` meets its contract: after y turns the first y rows have gained, every other byte is as it was. Assumes nothing.
use Rattle.std.proofs.Common.{◌≡◌, ◌+◌, ◌*◌, ◌^◌, ◌≤◌, ◌<◌, pos, length, get_or, ℕ, arith, ap, sym, ◌∙◌, subst}
use native.Mathlib.Nat as N
use Rattle.whole.specs.Sums.{Within}
use Rattle.whole.proofs.Fill.{within-tab, tab-at}
use Rattle.whole.proofs.Lent.{lent, lent_at, lent-count}
use Rattle.wide_rows.specs.Lines.{line}
use Rattle.narrow.specs.Painted.{Painted}
use Rattle.narrow.proofs.Paints.{paint-now, paint-more}
use Rattle.quick_bytes.specs.Held.{reached, reached_of}
use Rattle.quick_bytes.proofs.columns.gain_rows.Goals as goal

pub gain_row-requires : goal.gain_row-requires
gain_row-requires c =
    let y = c.loop-y.y in
    let w = c.args.w in
    let a = c.args.from + y * c.args.stride in
    let inside : a + w ≤ length c.loop-y.dst = omega (arith, c.requires.0.inside y c.loop-y-test.true) in (
      subst (Within (2 ^ 30)) (sym c.row_of-e.ensures) (within-tab (2 ^ 30) 16 (λ l. line c.args.res.now l y) (c.requires.3 y c.loop-y-test.true).1),
      subst (λ (n : ℕ). n ≤ 16) (sym (lent-count 0 c.loop-y.dst a w inside)) c.requires.1,
      c.requires.2,
    )

pub loop-y-preserved : goal.loop-y-preserved
loop-y-preserved c =
    let y = c.loop-y.y in
    let w = c.args.w in
    let a = c.args.from + y * c.args.stride in
    let q = c.requires in
    let f : ℕ → ℕ → ℕ = reached_of c.args.dst.now c.args.from c.args.stride c.args.shift (λ r x. line c.args.res.now x r) in
    let end : a + w ≤ length c.args.dst.now = q.0.inside y c.loop-y-test.true in
    let inside : a + w ≤ length c.loop-y.dst = omega (arith, end) in
    let still : (x : ℕ) → x < w → get_or c.loop-y.dst (a + x) 0 ≡ get_or c.args.dst.now (a + x) 0 = paint-now c.loop-y.invariant q.0.wide in
    let row = lent a w c.loop-y.dst in
    let e = c.row_of-e.result in
    paint-more {f = f} c.loop-y.invariant q.0.wide end _ (N.add-sub_cancel_left a w) c.gain_row.new.row c.gain_row.auto.row
    (λ x h. ap (λ l. get_or l x 0) c.gain_row.ensures
    ∙ tab-at 0 (length row) (λ x. reached c.args.shift (get_or row x 0) (get_or e x (pos 0))) x (subst (λ (n : ℕ). x < n) (sym (lent-count 0 c.loop-y.dst a w inside)) h)
    ∙ ap (λ p. reached c.args.shift p (get_or e x (pos 0))) (lent_at 0 c.loop-y.dst a w inside x h ∙ still x h)
    ∙ ap (λ z. reached c.args.shift (get_or c.args.dst.now (a + x) 0) z) (ap (λ l. get_or l x (pos 0)) c.row_of-e.ensures ∙ tab-at (pos 0) 16 (λ l. line c.args.res.now l y) x (N.lt_of_lt_of_le h q.1)))

pub returns : goal.returns
returns c =
    let f : ℕ → ℕ → ℕ = reached_of c.args.dst.now c.args.from c.args.stride c.args.shift (λ r x. line c.args.res.now x r) in
    let e : c.loop-y.y ≡ c.args.h = omega arith in
    subst (λ (n : ℕ). Painted 0 c.args.from c.args.stride c.args.w n f c.args.dst.now c.loop-y.dst) e c.loop-y.invariant
