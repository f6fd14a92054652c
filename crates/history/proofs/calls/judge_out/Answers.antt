-- `history::calls::judge_out` meets its contract: the two searches of the undo's losses. Assumes nothing.
use mathlib.Core.Path.{◌≡◌, sym, ◌∙◌, subst}
use mathlib.Core.Bool.{true}
use Prim.Native.Nat.{ℕ, ◌+◌, ◌*◌, ◌≤◌}
use native.Mathlib.Omega.{arith}
use lib.ListN.{get_or}
use Rattle.whole.specs.Sums.{item}
use Rattle.whole.specs.Search.{cell_at}
use Rattle.wht.specs.Calls.{Sixteen}
use Rattle.lossless.specs.Gains.{samples}
use Rattle.lossless.specs.Step.{sample}
use Rattle.lossless.proofs.Adding.{change-size}
use Rattle.history.proofs.calls.judge_out.Goals as goal

place_is : (i : ℕ) → 4 * i + 2 ≡ 4 * i + 1 + 1
place_is i = omega arith

pub judge-requires : goal.judge-requires
judge-requires c = (
  subst (λ (k : ℕ). get_or c.args.s.now k 0 ≤ 12) (sym (place_is c.args.i)) c.requires.deep,
  omega (arith, c.start_of-start.ensures, c.requires.reach),
  subst (Sixteen 1048576) (sym c.losses.ensures) (change-size true c.requires.sixteen),
)

pub returns : goal.returns
returns c =
    c.judge.ensures
    ∙ (λ k. samples (sample (get_or c.args.s.now (place_is c.args.i k) 0)) (cell_at (c.start_of-start.ensures k) c.args.stride 4) c.args.plane.now (item (c.losses.ensures k)))
