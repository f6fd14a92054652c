-- `quick::filling::fill` meets its contract: after x turns the first x places hold their pixels. Assumes nothing.
use Rattle.std.proofs.Common.{◌≡◌, ◌/◌, ◌^◌, pos, get_or, w32, to_z, of_z, ap, ◌∙◌, lit<, lit≤}
use Rattle.whole.specs.Numbers.{round_shift}
use Rattle.whole.proofs.Num.{made, back}
use Rattle.whole.proofs.Sums.{within_all}
use Rattle.whole.proofs.Fill.{fill_more, fill_done}
use Rattle.fast.specs.Gains.{gain_of}
use Rattle.pixels.specs.Pixels.{pixel_f}
use Rattle.pixels.proofs.Floats.{pixel-clamped}
use Rattle.quick.proofs.filling.fill.Given.{Over}
use Rattle.quick.proofs.filling.fill.Goals as goal

-- the pixel, by what stands in the lists
pixel-is : (g : Over) (c : goal.After-gained-z g) → to_z w32 (of_z w32 c.gained-z.result) ≡ gain_of (get_or c.args.pred.now c.loop-x.x (pos 0)) (round_shift c.args.shift (get_or c.args.e (c.loop-x.x / 2 ^ g.row.HALF) (pos 0)))
pixel-is g c =
    let x = c.loop-x.x in
    let y = c.loop-x.x / 2 ^ g.row.HALF in
    let p : to_z w32 (of_z w32 (get_or c.args.pred.now x (pos 0))) ≡ get_or c.args.pred.now x (pos 0) = (made w32 (within_all 4096 c.args.pred.now c.requires.1 x) (lit< tt)).is in
    let e : to_z w32 (of_z w32 (get_or c.args.e y (pos 0))) ≡ get_or c.args.e y (pos 0) = (made w32 (within_all (2 ^ 30) c.args.e c.requires.2 y) (lit< tt)).is in
    back c.gained-z.type_inv ∙ c.gained-z.ensures ∙ ap (λ z. gain_of z (round_shift c.args.shift (to_z w32 (of_z w32 (get_or c.args.e y (pos 0)))))) p
    ∙ ap (λ z. gain_of (get_or c.args.pred.now x (pos 0)) (round_shift c.args.shift z)) e

pub float-requires : goal.float-requires
float-requires g c = rw (pixel-is g c) (pixel-clamped (pos 255) _ (lit≤ tt))

pub loop-x-preserved : goal.loop-x-preserved
loop-x-preserved g c = fill_more c.loop-x.invariant c.loop-x-test.true (c.float.ensures ∙ ap pixel_f (pixel-is g c.before))

pub returns : goal.returns
returns g c = fill_done c.loop-x.invariant c.loop-x-test.false
