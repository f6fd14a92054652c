-- `lossless::block::add` meets its contract: at k, the first k samples have gained their numbers. Assumes nothing.
use mathlib.Core.Path.{◌≡◌, refl, ap, ◌∙◌}
use Prim.Native.Nat.{ℕ, ◌<◌, ◌+◌}
use native.Mathlib.Omega.{arith}
use lib.Dec.{lit<, lit≤}
use lib.IntN.{◌+ℤ◌}
use lib.ListN.{length, set}
use mir.Syntax.{w32}
use mir.Val.{to_z, of_z}
use Rattle.whole.specs.Sums.{item}
use Rattle.whole.specs.Search.{cell_at}
use Rattle.whole.proofs.Cells.{cell_apart}
use Rattle.whole.proofs.Num.{Num, ask, read}
use Rattle.lossless.specs.Gains.{gain}
use Rattle.lossless.proofs.Adding.{cell_lies, total}
use Rattle.lossless.proofs.Gains.{length-add_on, still, add_on-next, gain-start}
use Rattle.lossless.proofs.block.add.Goals as goal
use Rattle.lossless.proofs.block.add.Goals.{In-loop-k, After-spot_of-i}

module _ (c : In-loop-k) where
  -- the next index lies in the plane, and is none of those before it
  lies : cell_at c.args.start c.args.stride 4 c.loop-k.k < length c.args.plane.now
  lies = cell_lies c.args.start c.args.stride (length c.args.plane.now) c.requires.0.reach c.loop-k.k c.loop-k-test.true

  fresh : (j : ℕ) → j < c.loop-k.k → cell_at c.args.start c.args.stride 4 j ≡ cell_at c.args.start c.args.stride 4 c.loop-k.k → ⊥
  fresh j h e = omega (arith, cell_apart c.args.start c.args.stride 4 (lit≤ tt) c.requires.1 j c.loop-k.k e)

module _ (c : After-spot_of-i) where
  in-plane : c.spot_of-i.result < length c.loop-k.plane
  in-plane = rw (c.spot_of-i.ensures, c.loop-k.invariant, length-add_on (gain (cell_at c.args.start c.args.stride 4) (item c.args.gains.now) c.loop-k.k) c.args.plane.now) (lies c.before)

  -- the sample there is as it was
  here : item c.loop-k.plane c.spot_of-i.result ≡ item c.args.plane.now (cell_at c.args.start c.args.stride 4 c.loop-k.k)
  here = rw (c.spot_of-i.ensures, c.loop-k.invariant) (still (cell_at c.args.start c.args.stride 4) (item c.args.gains.now) c.loop-k.k c.args.plane.now (fresh c.before))

  sum : Num
      (to_z w32 (of_z w32 (item c.loop-k.plane c.spot_of-i.result)) +ℤ to_z w32 (of_z w32 (item c.args.gains.now c.loop-k.k)))
      (item c.args.plane.now (cell_at c.args.start c.args.stride 4 c.loop-k.k) +ℤ item c.args.gains.now c.loop-k.k)
      (4095 + 1048576)
  sum = total c.requires.0 c.loop-k.k c.loop-k-test.true here

pub loop-k-init : goal.loop-k-init
loop-k-init c = gain-start c.args.plane.now (item c.args.gains.now) (cell_at c.args.start c.args.stride 4)

pub overflow_add-plane : goal.overflow_add-plane
overflow_add-plane c = ask (sum c.before.before) w32 (lit< tt)

pub loop-k-preserved : goal.loop-k-preserved
loop-k-preserved c =
    let d = c.before.before in
    ap (λ z. set c.loop-k.plane c.spot_of-i.result z) (read (sum d) w32 (lit< tt)).is
    ∙ rw (c.spot_of-i.ensures, c.loop-k.invariant) (add_on-next (cell_at c.args.start c.args.stride 4) (item c.args.gains.now) c.loop-k.k c.args.plane.now (fresh d.before) (lies d.before) refl)
