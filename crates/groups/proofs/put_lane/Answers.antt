-- `groups::put_lane` meets its contract: after k turns the first k lanes are written. Assumes nothing.
use mathlib.Core.Path.{◌≡◌, sym, ap, ◌∙◌}
use native.Mathlib.Numerals.{add-one}
use native.Mathlib.Omega.{arith}
use borrow.Author.Rules.{rules, scaled_Fits}
use lib.ListN.{set}
use mir.Syntax.{w32}
use mir.Val.{to_z, of_z}
use Rattle.whole.specs.Lanes.{walk, puts}
use Rattle.whole.proofs.Groups.{walk_is}
use Rattle.groups.proofs.Together.{walk-in}
use Rattle.groups.proofs.put_lane.Goals as goal

pub overflow_mul-k : goal.overflow_mul-k
overflow_mul-k g c = omega (arith, walk-in c.args.q c.args.s c.loop-k.k (c.requires.1 c.loop-k.k c.loop-k-test.true))

pub overflow_add-q : goal.overflow_add-q
overflow_add-q g c = omega (arith, walk-in c.args.q c.args.s c.loop-k.k (c.requires.1 c.loop-k.k c.loop-k-test.true))

pub offset_bounds-work-q : goal.offset_bounds-work-q
offset_bounds-work-q g c = scaled_Fits _ _ 4 (walk-in c.args.q c.args.s c.loop-k.k (c.requires.1 c.loop-k.k c.loop-k-test.true)) c.well_formed.0.1

pub bounds-work-q : goal.bounds-work-q
bounds-work-q g c = omega (arith, walk-in c.args.q c.args.s c.loop-k.k (c.requires.1 c.loop-k.k c.loop-k-test.true), c.loop-k.auto.work)

pub loop-k-preserved : goal.loop-k-preserved
loop-k-preserved g c =
    let at = g.L.Lanes.lane in
    let e : to_z w32 (of_z w32 c.get.result) ≡ at c.args.r.now c.loop-k.k = search rules in
    (λ i. set (c.loop-k.invariant i) (sym (walk_is c.args.q c.args.s c.loop-k.k) i) (e i))
    ∙ ap (λ n. puts n (walk c.args.q c.args.s) (at c.args.r.now) c.args.work.now) (sym (add-one c.loop-k.k))

pub returns : goal.returns
returns g c =
    let e : c.loop-k.k ≡ c.args.lines = omega arith in
    c.loop-k.invariant ∙ ap (λ n. puts n (walk c.args.q c.args.s) (g.L.Lanes.lane c.args.r.now) c.args.work.now) e
