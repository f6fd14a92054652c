-- `quick_bytes::columns::gain_row` meets its contract: after x turns the first x bytes have gained, the others are as they were. Assumes nothing.
use Rattle.std.proofs.Common.{◌≡◌, ◌^◌, pos, get_or, w32, to_z, of_z, ap, ◌∙◌, lit<}
use Rattle.whole.proofs.Num.{made}
use Rattle.whole.proofs.Sums.{within_all}
use Rattle.whole.proofs.Fill.{place-more, place-now, place-done}
use Rattle.quick_bytes.specs.Held.{reached}
use Rattle.quick_bytes.proofs.columns.gain_row.Goals as goal

pub loop-x-preserved : goal.loop-x-preserved
loop-x-preserved c =
    let x = c.loop-x.x in
    let e : to_z w32 (of_z w32 (get_or c.args.e x (pos 0))) ≡ get_or c.args.e x (pos 0) = (made w32 (within_all (2 ^ 30) c.args.e c.requires.0 x) (lit< tt)).is in
    place-more c.loop-x.invariant c.loop-x-test.true
    (c.gained.ensures ∙ ap (λ p. reached c.args.shift p (to_z w32 (of_z w32 (get_or c.args.e x (pos 0))))) (place-now c.loop-x.invariant) ∙ ap (λ z. reached c.args.shift (get_or c.args.row.now x 0) z) e)

pub returns : goal.returns
returns c = place-done c.loop-x.invariant c.loop-x-test.false
