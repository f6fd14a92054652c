-- `rows::butterfly::evens` meets its contract: the loop writes behind what it reads. Assumes nothing.
use mathlib.Core.Path.{◌∙◌}
use Prim.Native.Nat.{◌+◌}
use native.Mathlib.Nat as N
use native.Mathlib.Omega.{arith}
use lib.IntN.{pos}
use lib.ListN.{take}
use lib.Seq.{get_or-take, length-take-le}
use mir.Syntax.{w32}
use mir.ValLaws.{to_z-of_z}
use Rattle.whole.proofs.Fill.{place-start, place-more, filled-all}
use Rattle.rows.proofs.butterfly.evens.Goals as goal

pub loop-i-init : goal.loop-i-init
loop-i-init c = (place-start, omega arith)

pub loop-i-preserved : goal.loop-i-preserved
loop-i-preserved c =
    let l = c.before.before in (
      place-more l.loop-i.invariant.0 (omega arith) (to_z-of_z w32 _ (record { sfits = c.c-1.given }) ∙ l.loop-i.invariant.0.rest (l.loop-i.i + l.loop-i.i) (omega arith)),
      omega arith,
    )

pub returns : goal.returns
returns c =
    let p = c.loop-i.invariant.0 in
    let n = c.args.n in
    filled-all (pos 0) (take n c.loop-i.c) n _ (length-take-le n c.loop-i.c (omega arith))
    (λ k q. get_or-take n c.loop-i.c k (pos 0) q ∙ p.fill.holds k (N.lt_of_lt_of_le q c.loop-i-test.false))
