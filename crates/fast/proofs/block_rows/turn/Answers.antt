-- `fast::block_rows::turn` meets its contract: after l turns the first l lines are rows of the work area. Assumes nothing.
use Rattle.std.proofs.Common.{◌≡◌, ◌+◌, ◌*◌, ◌≤◌, pos, length, get_or, ℕ, ℤ, arith, ap, ◌∙◌, subst}
use native.Mathlib.Nat as N
use Rattle.whole.specs.Sums.{tab}
use Rattle.whole.proofs.Fill.{tab-at}
use Rattle.whole.proofs.Lent.{lent-count}
use Rattle.passes.specs.Passes.{settled_to}
use Rattle.narrow.specs.Painted.{Painted}
use Rattle.narrow.proofs.Paints.{paint-more}
use Rattle.fast.proofs.block_rows.turn.Goals as goal

pub loop-l-preserved : goal.loop-l-preserved
loop-l-preserved c =
    let l = c.loop-l.l in
    let a = c.args.from + l * 16 in
    let f : ℕ → ℕ → ℤ = λ l m. settled_to 15 c.args.shift (get_or c.args.out.now (c.args.p + l + m * 16) (pos 0)) in
    let end : a + c.args.c ≤ length c.args.work.now = omega (arith, c.requires.c_nonzero.1, c.requires.c_nonzero.2) in
    let inside : a + c.args.c ≤ length c.loop-l.work = omega (arith, end) in
    paint-more {f = f} c.loop-l.invariant c.requires.c_nonzero.1 end _ (N.add-sub_cancel_left a c.args.c) c.turn_row.new.row c.turn_row.auto.row
    (λ m h. ap (λ z. get_or z m (pos 0)) c.turn_row.ensures ∙ ap (λ n. get_or (tab n (f l)) m (pos 0)) (lent-count (pos 0) c.loop-l.work a c.args.c inside) ∙ tab-at (pos 0) c.args.c (f l) m h)

pub returns : goal.returns
returns c =
    let e : c.loop-l.l ≡ c.args.k = omega arith in
    subst (λ (n : ℕ). Painted (pos 0) c.args.from 16 c.args.c n (λ l m. settled_to 15 c.args.shift (get_or c.args.out.now (c.args.p + l + m * 16) (pos 0))) c.args.work.now c.loop-l.work) e c.loop-l.invariant
