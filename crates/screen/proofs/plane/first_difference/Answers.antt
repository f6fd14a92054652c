-- `plane::first_difference` meets its contract: at turn i the first i numbers are the same. Assumes nothing.
use mathlib.Core.Path.{ap}
use native.Mathlib.Nat.{le_refl}
use native.Mathlib.Omega.{arith}
use lib.ListN.{length}
use mir.Syntax.{w32}
use mir.Val.{of_z}
use Rattle.screen.proofs.Planes.{same_bits, agreed-none, agreed-more, differing, alike}
use Rattle.screen.proofs.plane.first_difference.Goals as goal

pub loop-i-init : goal.loop-i-init
loop-i-init c = agreed-none c.args.a.now c.args.b.now

pub returns-then-x-b : goal.returns-then-x-b
returns-then-x-b c = (c.loop-i-test.true, differing c.loop-i.invariant c.loop-i-test.true (λ e. c.if-x-b.true (ap (of_z w32) e)))

pub loop-i-preserved : goal.loop-i-preserved
loop-i-preserved c = agreed-more c.loop-i.i c.loop-i.invariant (same_bits (record { sfits = c.t9-1.given }) (record { sfits = c.t12-1.given }) c.if-x-b.false)

pub returns : goal.returns
returns c = alike (record { same = λ k h. c.loop-i.invariant.same k (omega arith) }) (le_refl (length c.args.a.now)) c.requires
