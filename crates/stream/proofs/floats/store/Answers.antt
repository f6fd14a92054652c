-- `floats::store` meets its contract: at turn i the first i numbers have their floats' bits, and the others are what they were. Assumes nothing.
use mathlib.Core.Path.{◌≡◌, ap, ◌∙◌}
use borrow.Author.Rules.{rules}
use lib.IntN.{pos}
use lib.ListN.{get_or}
use native.Mathlib.Omega.{arith}
use mir.Syntax.{w32}
use mir.Val.{to_z, of_z}
use Rattle.whole.proofs.Fill.{place-start, place-more, place-now, place-done}
use Rattle.stream.specs.Floats.{bits_of}
use Rattle.stream.proofs.floats.store.Goals as goal

pub loop-i-init : goal.loop-i-init
loop-i-init c = place-start

pub loop-i-preserved : goal.loop-i-preserved
loop-i-preserved c =
    let held : to_z w32 (of_z w32 c.cast_signed.result) ≡ c.cast_signed.result = search rules in
    let now : to_z w32 (of_z w32 (get_or c.loop-i.bits c.loop-i.i (pos 0))) ≡ get_or c.loop-i.bits c.loop-i.i (pos 0) = search rules in
    place-more c.loop-i.invariant (omega arith)
    (held ∙ c.cast_signed.ensures ∙ ap (to_z w32) (c.bits_of.ensures ∙ ap (bits_of _) (c.cast_unsigned.ensures ∙ ap (of_z w32) (now ∙ place-now c.loop-i.invariant))))

pub returns : goal.returns
returns c = place-done c.loop-i.invariant (omega arith)
