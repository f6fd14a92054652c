-- `chroma::turn_all` meets its contract: at turn i the first i pairs are turned, and the others are what they were. Assumes nothing.
use mathlib.Core.Path.{◌≡◌, ◌∙◌}
use native.Mathlib.Omega.{arith}
use mir.Syntax.{w32}
use mir.Val.{to_z, of_z}
use mir.ValLaws.{to_z-of_z}
use Rattle.whole.specs.Sums.{item}
use Rattle.whole.proofs.Fill.{place-more, place-now, place-done}
use Rattle.chroma.proofs.turn_all.Goals as goal

pub loop-i-preserved : goal.loop-i-preserved
loop-i-preserved c =
    let i = c.loop-i.i in
    -- the pair that a turn reads is the pair that came in
    let u : to_z w32 (of_z w32 (item c.loop-i.u i)) ≡ item c.args.u.now i = to_z-of_z w32 _ (record { sfits = c.turn-arg-1.given }) ∙ place-now c.loop-i.invariant.0 in
    let v : to_z w32 (of_z w32 (item c.loop-i.v i)) ≡ item c.args.v.now i = to_z-of_z w32 _ (record { sfits = c.turn-arg-in-loop-i-1.given }) ∙ place-now c.loop-i.invariant.1 in (
      place-more c.loop-i.invariant.0 (omega arith) (to_z-of_z w32 _ (record { sfits = c.struct_told-1.given.0.1 }) ∙ (rw (u, v) at c.turn.ensures.0)),
      place-more c.loop-i.invariant.1 (omega arith) (to_z-of_z w32 _ (record { sfits = c.struct_told-in-loop-i-1.given.1.0.1 }) ∙ (rw (u, v) at c.turn.ensures.1)),
    )

pub returns : goal.returns
returns c =
    let u = place-done c.loop-i.invariant.0 (omega arith) in
    let v = place-done c.loop-i.invariant.1 (omega arith) in
    rw (
      ← to_z-of_z w32 c.args.lo c.ranges.lo,
      ← to_z-of_z w32 c.args.hi c.ranges.hi,
      ← to_z-of_z w32 c.args.sina c.ranges.sina,
      ← to_z-of_z w32 c.args.cosa c.ranges.cosa,
    ) (λ j. (u j, v j))
