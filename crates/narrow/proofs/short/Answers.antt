-- `narrow::short` meets its contract. Assumes nothing.
use mathlib.Core.Path.{◌≡◌, sym, ap, ◌∙◌, subst}
use mir.Syntax.{w16, w32}
use mir.Val.{SFits}
use mir.ValLaws.{to_z-of_z}
use Rattle.whole.specs.Numbers.{clamp, lowest, highest}
use Rattle.whole.proofs.Range.{clamp-in-range}
use Rattle.narrow.proofs.Clamps.{fits16}
use Rattle.narrow.proofs.short.Goals as goal
use Rattle.narrow.proofs.short.Lts as lts
use Rattle.narrow.proofs.short.Reads as reads
use Rattle.narrow.proofs.short.Tie as tie

abbrev After-clamped-y : Type 0
After-clamped-y = lts.After-clamped tie.the-claims reads.Pre reads.Post

is : (c : After-clamped-y) → c.clamped-y.result ≡ clamp (lowest 15) (highest 15) c.args.z
is c = c.clamped-y.ensures ∙ ap (clamp (lowest 15) (highest 15)) (to_z-of_z w32 _ c.ranges.z)

pub overflow_cast-result : goal.overflow_cast-result
overflow_cast-result c =
    subst (SFits w16) (sym (to_z-of_z w32 _ (record { sfits = c.clamped-y.type_inv }) ∙ is c))
    (fits16 (clamp (lowest 15) (highest 15) c.args.z) (clamp-in-range (lowest 15) (highest 15) c.args.z (record { le = tt })))

pub returns : goal.returns
returns c = to_z-of_z w16 _ (overflow_cast-result c) ∙ to_z-of_z w32 _ (record { sfits = c.clamped-y.type_inv }) ∙ is c
