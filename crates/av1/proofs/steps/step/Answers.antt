-- `av1::steps::step` meets its contract: each kind of step is its function's. Assumes nothing.
use mathlib.Core.Path.{◌≡◌}
use Prim.Native.Nat.{◌-◌}
use native.Mathlib.Omega.{arith}
use borrow.Author.Tests.{ne_eqb, lt-ltb, le-ltb}
use Rattle.av1.specs.Steps.{step_of}
use Rattle.av1.proofs.steps.step.Goals as goal

pub returns-in-Sums : goal.returns-in-Sums
unfolding step_of
returns-in-Sums c = rw c.in-Sums.ensures c.sums.ensures

pub returns-in-Turn : goal.returns-in-Turn
unfolding step_of
returns-in-Turn c =
    rw (ne_eqb c.args.g 0 (λ z. absurd (omega arith)), lt-ltb c.args.g 128 c.in-Turn.ensures.1, c.turn.ensures, c.in-Turn.ensures.2)

pub returns-in-Crossed : goal.returns-in-Crossed
unfolding step_of
returns-in-Crossed c =
    let h : c.in-Crossed.h ≡ c.args.g - 128 = omega arith in
    rw (ne_eqb c.args.g 0 (λ z. absurd (omega arith)), le-ltb c.args.g 128 c.in-Crossed.ensures.0, c.turn-in-Crossed.ensures, h)
