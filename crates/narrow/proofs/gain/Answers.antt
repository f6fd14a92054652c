-- `narrow::gain` meets its contract: after x turns the first x samples have gained, the others are as they were. Assumes nothing.
use Rattle.std.proofs.Common.{◌/◌, ◌^◌, pos, ◌+ℤ◌, get_or, w32, to_z, of_z, ap, ◌∙◌, ◌≡◌, lit<}
use Rattle.whole.specs.Numbers.{clamp, round_shift}
use Rattle.whole.proofs.Num.{made, back}
use Rattle.whole.proofs.Sums.{within_all}
use Rattle.whole.proofs.Fill.{place-more, place-now, place-done}
use Rattle.narrow.proofs.gain.Goals as goal

pub loop-x-preserved : goal.loop-x-preserved
loop-x-preserved g c =
    let x = c.loop-x.x in
    let y = c.loop-x.x / 2 ^ g.row.HALF in
    let p : to_z w32 (of_z w32 (get_or c.loop-x.row x (pos 0))) ≡ get_or c.args.row.now x (pos 0) =
    ap (λ z. to_z w32 (of_z w32 z)) (place-now c.loop-x.invariant) ∙ (made w32 (within_all 4096 c.args.row.now c.requires.0 x) (lit< tt)).is in
    let e : to_z w32 (of_z w32 (get_or c.args.e y (pos 0))) ≡ get_or c.args.e y (pos 0) = (made w32 (within_all (2 ^ 30) c.args.e c.requires.1 y) (lit< tt)).is in
    place-more c.loop-x.invariant c.loop-x-test.true
    (back c.gained.type_inv ∙ c.gained.ensures ∙ ap (λ z. clamp (pos 0) (pos 255) (z +ℤ round_shift c.args.shift (to_z w32 (of_z w32 (get_or c.args.e y (pos 0)))))) p
    ∙ ap (λ z. clamp (pos 0) (pos 255) (get_or c.args.row.now x (pos 0) +ℤ round_shift c.args.shift z)) e)

pub returns : goal.returns
returns g c = place-done c.loop-x.invariant c.loop-x-test.false
