-- `byteplanes::block_rows::gain_row` meets its contract: after x turns the first x bytes have gained, the others are as they were. Assumes nothing.
use mathlib.Core.Path.{ap, ◌∙◌}
use native.Mathlib.Omega.{arith}
use lib.IntN.{pos}
use lib.ListN.{get_or}
use mir.Syntax.{w32}
use mir.Val.{to_z, of_z}
use mir.ValLaws.{to_z-of_z}
use Rattle.whole.proofs.Fill.{place-more, place-now, place-done}
use Rattle.byteplanes.specs.Bytes.{byte_of}
use Rattle.byteplanes.proofs.block_rows.gain_row.Goals as goal

pub loop-x-preserved : goal.loop-x-preserved
loop-x-preserved c =
    let x = c.loop-x.x in
    place-more c.loop-x.invariant c.loop-x-test.true
    (c.gained.ensures ∙ ap (λ p. byte_of p (to_z w32 (of_z w32 (get_or c.args.e.now x (pos 0))))) (place-now c.loop-x.invariant)
    ∙ ap (byte_of (get_or c.args.row.now x 0)) (to_z-of_z w32 _ (record { sfits = c.gained-arg-1.given })))

pub returns : goal.returns
returns c = place-done c.loop-x.invariant (omega (arith, c.loop-x.invariant.fill.long))
