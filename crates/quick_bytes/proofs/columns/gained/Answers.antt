-- `quick_bytes::columns::gained` meets its contract: the number of the byte, the pixel, and its cast back, which loses nothing; the clamp of a residual can't be seen. Assumes nothing.
use mathlib.Core.Path.{◌≡◌, sym, ap, ◌∙◌, subst}
use mathlib.Core.Bool.{true}
use native.Mathlib.Omega.{arith}
use lib.IntN.{ℤ, pos, nat_abs, ◌+ℤ◌}
use mir.Syntax.{w32}
use mir.Val.{to_z, of_z}
use mir.ValLaws.{to_z-of_z}
use Rattle.whole.specs.Numbers.{clamp, round_shift}
use Rattle.whole.proofs.Num.{back}
use Rattle.whole.proofs.Range.{clamp-in-range}
use Rattle.octets.specs.Octets.{is_byte}
use Rattle.quick_bytes.proofs.Reached.{byte-unseen}
use Rattle.quick_bytes.proofs.columns.gained.Goals as goal

pub gained-z-requires : goal.gained-z-requires
gained-z-requires c =
    rw (back c.number.type_inv ∙ c.number.ensures.0, to_z-of_z w32 c.args.e c.ranges.e) (omega (arith, c.number.ensures.1), c.requires.0, c.requires.1)

pub byte-requires : goal.byte-requires
byte-requires c = subst (λ (z : ℤ). is_byte z ≡ true) (sym (back c.gained-z.type_inv ∙ c.gained-z.ensures)) (clamp-in-range (pos 0) (pos 255) _ (record { le = tt }))

pub returns : goal.returns
returns c =
    c.byte.ensures
    ∙ ap nat_abs (back c.gained-z.type_inv ∙ c.gained-z.ensures
    ∙ ap (λ z. clamp (pos 0) (pos 255) (z +ℤ round_shift c.args.shift (to_z w32 (of_z w32 c.args.e)))) (back c.number.type_inv ∙ c.number.ensures.0)
    ∙ ap (λ z. clamp (pos 0) (pos 255) (pos c.args.p +ℤ round_shift c.args.shift z)) (to_z-of_z w32 c.args.e c.ranges.e)
    ∙ byte-unseen c.args.p c.args.shift c.args.e c.number.ensures.1)
