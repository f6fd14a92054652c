-- One lane, four lanes and eight agree. Every form of `passes::block::inv_txfm_passes` promises `Leaves`. Assumes nothing.
--     Leaves          what the promise says of the work area that a call leaves
--     leaves          the promise, for any number of lanes
--     lanes-agree     two calls on the same block, in whichever forms, leave the same sw * sh numbers
--     forms-agree     so do calls with one lane, four lanes and eight
use mathlib.Core.Path.{sym, ◌∙◌}
use mathlib.Core.Bool.{Bool}
use mathlib.Core.List.{List}
use Prim.Native.Nat.{ℕ}
use lib.IntN.{ℤ}
use contract.Lifetimes.{Lfts}
use denote.Triple.Clauses.{AtExit}
use borrow.Fn.Kinds.{Dens, ended_of}
use Rattle.whole.specs.Grid.{grid_of, Same}
use Rattle.passes.specs.Passes.{passes_of, sw_of, sh_of}
use Rattle.passes.proofs.block.inv_txfm_passes.Kinds.{ps, r}
use Rattle.passes.proofs.block.inv_txfm_passes.Reads as passes

abbrev pub Leaves : Bool → ℕ → ℕ → ℕ → List ℤ → List ℤ → Type 0
Leaves rowwise tx txtp depth cs work = Same (sw_of tx) (sh_of tx) (grid_of (sw_of tx) work) (passes_of rowwise tx txtp depth cs)

pub lanes-agree : (rowwise : Bool) (tx txtp depth : ℕ) (cs one four : List ℤ) → Leaves rowwise tx txtp depth cs one → Leaves rowwise tx txtp depth cs four → Same (sw_of tx) (sh_of tx) (grid_of (sw_of tx) one) (grid_of (sw_of tx) four)
lanes-agree rowwise tx txtp depth cs one four p q r x a b = p r x a b ∙ sym (q r x a b)

pub leaves : (κs : Lfts 2) (c : Dens κs ps) (left : AtExit (ended_of 2 ps r) κs) → passes.Learnt κs c tt left → Leaves c.1.1.1.1.1.1.0 c.1.1.1.0 c.1.1.0 c.1.1.1.1.0 c.1.0.now left.0.now
leaves κs c left p = p

pub forms-agree : (rowwise : Bool) (tx txtp depth : ℕ) (cs one four eight : List ℤ) → Leaves rowwise tx txtp depth cs one → Leaves rowwise tx txtp depth cs four → Leaves rowwise tx txtp depth cs eight
    → Same (sw_of tx) (sh_of tx) (grid_of (sw_of tx) one) (grid_of (sw_of tx) four) × Same (sw_of tx) (sh_of tx) (grid_of (sw_of tx) one) (grid_of (sw_of tx) eight)
forms-agree rowwise tx txtp depth cs one four eight p q s = (lanes-agree rowwise tx txtp depth cs one four p q, lanes-agree rowwise tx txtp depth cs one eight p s)
