-- `groups::gather` meets its contract: after i turns the first i records hold their numbers in every lane. Assumes nothing.
use Prim.Native.Nat.{ℕ, ◌<◌}
use native.Mathlib.Omega.{arith}
use lib.ListN.{length}
use Rattle.whole.specs.Lanes.{spot}
use Rattle.whole.proofs.Groups.{lanes_start, lanes-more, lanes-done}
use Rattle.groups.proofs.gather.Given.{Over}
use Rattle.groups.proofs.gather.Goals as goal
use Rattle.groups.proofs.gather.Goals.{In-loop-i}

-- each of the places of a record lies in the work area
place : (g : Over) (c : In-loop-i g) (k : ℕ) → k < c.args.lines → spot c.args.base c.args.p c.args.s k c.loop-i.i < length c.args.work.now
place g c k h = c.requires.1.inside k c.loop-i.i h c.loop-i-test.true

pub loop-i-init : goal.loop-i-init
loop-i-init g c = lanes_start c.requires.0

pub overflow_mul-q : goal.overflow_mul-q
overflow_mul-q g c = omega (arith, place g c 0 c.requires.3)

pub overflow_add-q : goal.overflow_add-q
overflow_add-q g c = omega (arith, place g c 0 c.requires.3)

pub record_at-requires : goal.record_at-requires
record_at-requires g c = (c.requires.2, λ k h. c.requires.1.inside k c.loop-i.i h c.loop-i-test.true)

pub loop-i-preserved : goal.loop-i-preserved
loop-i-preserved g c = lanes-more c.loop-i.invariant c.loop-i-test.true c.record_at.ensures

pub returns : goal.returns
returns g c k = lanes-done c.loop-i.invariant c.loop-i-test.false k
