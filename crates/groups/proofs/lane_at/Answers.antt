-- `groups::lane_at` meets its contract: after k turns the first k lanes have their numbers, and the others 0. Assumes nothing.
use mathlib.Core.Path.{◌≡◌, sym, ap, ◌∙◌}
use Prim.Native.Nat.{ℕ, ◌+◌}
use native.Mathlib.Decide.{ℕ_discrete}
use native.Mathlib.Omega.{arith}
use borrow.Author.Rules.{rules, scaled_Fits}
use lib.IntN.{ℤ, pos}
use lib.ListN.{get_or}
use Rattle.whole.specs.Sums.{tab}
use Rattle.whole.specs.Lanes.{walk}
use Rattle.whole.proofs.Fill.{tab-at}
use Rattle.whole.proofs.Groups.{walk_is}
use Rattle.groups.proofs.Together.{walk-in, gathered-more}
use Rattle.groups.proofs.lane_at.Goals as goal

pub loop-k-preserved : goal.loop-k-preserved
loop-k-preserved g c j = go (ℕ_discrete j c.loop-k.k)
  where
    f : ℕ → ℤ
    f i = get_or c.args.work.now (walk c.args.q c.args.s i) (pos 0)

    go : Dec (j ≡ c.loop-k.k) → g.L.Lanes.lane c.set.new.self j ≡ get_or (tab (c.loop-k.k + 1) f) j (pos 0)
    go (yes e) =
        ap (g.L.Lanes.lane c.set.new.self) e ∙ c.set.ensures.same ∙ (search rules) ∙ ap (λ z. get_or c.args.work.now z (pos 0)) (sym (walk_is c.args.q c.args.s c.loop-k.k))
        ∙ sym (tab-at (pos 0) (c.loop-k.k + 1) f c.loop-k.k (omega arith)) ∙ ap (λ z. get_or (tab (c.loop-k.k + 1) f) z (pos 0)) (sym e)
    go (no e) = c.set.ensures.other j e ∙ c.loop-k.invariant j ∙ gathered-more f e

pub overflow_mul-k : goal.overflow_mul-k
overflow_mul-k g c = omega (arith, walk-in c.args.q c.args.s c.loop-k.k (c.requires.1 c.loop-k.k c.loop-k-test.true))

pub overflow_add-q : goal.overflow_add-q
overflow_add-q g c = omega (arith, walk-in c.args.q c.args.s c.loop-k.k (c.requires.1 c.loop-k.k c.loop-k-test.true))

pub offset_bounds-work-q : goal.offset_bounds-work-q
offset_bounds-work-q g c = scaled_Fits _ _ 4 (walk-in c.args.q c.args.s c.loop-k.k (c.requires.1 c.loop-k.k c.loop-k-test.true)) c.well_formed.0.1

pub bounds-work-q : goal.bounds-work-q
bounds-work-q g c = omega (arith, walk-in c.args.q c.args.s c.loop-k.k (c.requires.1 c.loop-k.k c.loop-k-test.true))

pub returns : goal.returns
returns g c k =
    let e : c.loop-k.k ≡ c.args.lines = omega arith in
    c.loop-k.invariant k ∙ ap (λ n. get_or (tab n (λ l. get_or c.args.work.now (walk c.args.q c.args.s l) (pos 0))) k (pos 0)) e
