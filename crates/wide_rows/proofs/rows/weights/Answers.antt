-- `wide_rows::rows::weights` meets its contract: the loop fills the list. Assumes nothing.
use Rattle.std.proofs.Common.{◌+◌, ◌*◌, ◌^◌, pos, get_or, ℕ, ℤ, sym, ◌∙◌, subst}
use native.Mathlib.Nat as N
use Rattle.whole.specs.Sums.{Within}
use Rattle.whole.proofs.Fill.{fill_done, within-tab}
use Rattle.wide_rows.proofs.Taps.{taps-tab}
use Rattle.wide_rows.proofs.rows.weights.Goals as goal

pub returns : goal.returns
returns g c =
    let f : ℕ → ℤ = λ x. get_or c.args.t.now (c.args.p + x * c.args.d) (pos 0) in
    let i = c.loop-i.invariant in
    let e = fill_done i.filled c.loop-i-test.false in
    (e ∙ sym (taps-tab g.row.N c.args.p c.args.d c.args.t.now), subst (Within (2 ^ 7)) (sym e) (within-tab (2 ^ 7) g.row.N f (λ x q. i.small x (N.lt_of_lt_of_le q c.loop-i-test.false))))
