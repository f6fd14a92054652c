-- `lanes::g_id` meets its contract: the first n records are cleared from live on, and multiplied. Assumes nothing.
use mathlib.Core.Path.{sym, ap, ◌∙◌, subst}
use Prim.Native.Nat.{◌^◌, ◌≤◌}
use native.Mathlib.Omega.{arith}
use lib.IntN.{ℤ, nat_abs}
use lib.ListN.{take, length-take}
use mir.Syntax.{w32}
use mir.ValLaws.{to_z-of_z}
use Rattle.whole.specs.Sums.{Within}
use Rattle.whole.specs.Lanes.{col}
use Rattle.tables.specs.Dense.{multiplied}
use Rattle.lanes.proofs.Columns.{col-take}
use Rattle.lanes.proofs.g_id.Goals as goal

pub times-requires : goal.times-requires
times-requires g c = (
  omega (arith, length-take c.args.n c.rest.new.c, c.rest.auto.c, c.requires.live.0),
  omega (arith, c.requires.live.0),
  subst (λ (z : ℤ). nat_abs z ≤ 512) (sym (to_z-of_z w32 c.args.k c.ranges.k)) c.requires.live.1,
  λ j. subst (Within (2 ^ 19)) (sym (col-take g.L.Lanes.lane c.args.n j c.rest.new.c ∙ c.rest.ensures j)) (c.requires.live.2.1 j),
)

pub returns : goal.returns
returns g c j =
    let at = g.L.Lanes.lane in
    c.times.ensures j ∙ ap (λ z. multiplied c.args.n z (col at j (take c.args.n c.rest.new.c))) (to_z-of_z w32 c.args.k c.ranges.k)
    ∙ ap (multiplied c.args.n c.args.k) (col-take at c.args.n j c.rest.new.c ∙ c.rest.ensures j)
