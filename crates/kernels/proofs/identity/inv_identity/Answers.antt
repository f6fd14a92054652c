-- `kernels::identity::inv_identity` meets its contract: the numbers that are not live are cleared. Assumes nothing.
use mathlib.Core.Path.{◌≡◌, sym, ap, ◌∙◌, subst}
use Prim.Native.Nat.{◌^◌, ◌<◌}
use lib.IntN.{ℤ, nat_abs}
use lib.ListN.{length}
use mir.Syntax.{w32}
use mir.Val.{to_z, of_z}
use mir.ValLaws.{to_z-of_z}
use Rattle.whole.specs.Sums.{Within}
use Rattle.tables.specs.Dense.{multiplied}
use Rattle.kernels.proofs.identity.inv_identity.Goals as goal
use Rattle.kernels.proofs.identity.inv_identity.Lts as lts
use Rattle.kernels.proofs.identity.inv_identity.Reads as reads
use Rattle.kernels.proofs.identity.inv_identity.Tie as tie

abbrev Start : Type 0
Start = lts.Start tie.the-claims reads.Pre reads.Post

factor : (s : Start) → to_z w32 (of_z w32 s.args.factor) ≡ s.args.factor
factor s = to_z-of_z w32 s.args.factor s.ranges.factor

pub multiply-requires : goal.multiply-requires
multiply-requires c = (subst (λ (k : ℤ). nat_abs k < 4096) (sym (factor c.before.before.before.before)) c.requires.0, subst (Within (2 ^ 19)) (sym c.clear.ensures) c.requires.1)

pub returns : goal.returns
returns c =
    let e = c.clear in
    let s = c.before.before.before.before.before.before in
    c.multiply.ensures ∙ ap (λ k. multiplied (length e.new.c) k e.new.c) (factor s) ∙ ap (λ xs. multiplied (length xs) s.args.factor xs) e.ensures
