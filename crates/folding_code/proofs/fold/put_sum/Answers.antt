-- `folding_code::fold::put_sum` meets its contract: the sum, its levels, and their store. Assumes nothing.
use mathlib.Core.Path.{refl, sym, ap, ◌∙◌, subst}
use Prim.Native.Nat.{◌*◌}
use native.Mathlib.Nat.{le_refl}
use Rattle.wht.specs.Wht.{fwht}
use Rattle.wht.specs.Calls.{Sixteen}
use Rattle.remain.specs.Remaining.{put_on}
use Rattle.folding.specs.Owners.{owner}
use Rattle.folding.proofs.Owners.{sum-in}
use Rattle.folding_code.proofs.fold.put_sum.Goals as goal

pub levels_of-requires : goal.levels_of-requires
levels_of-requires c =
    (subst (Sixteen 1048576) (sym c.gather.ensures) (sum-in (owner c.args.o.now) c.args.l.now c.args.h c.args.n (λ k i. c.requires.4.part c.args.n k (le_refl c.args.n) i)), refl)

pub returns : goal.returns
returns c =
    c.put_levels.ensures ∙ (λ t. put_on (16 * c.args.m) ((c.levels_of.ensures ∙ ap fwht c.gather.ensures) t) 16 c.args.l.now)
