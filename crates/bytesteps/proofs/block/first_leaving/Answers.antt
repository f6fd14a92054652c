-- `bytesteps::block::first_leaving` meets its contract: the loop is a search, and every byte is one. Assumes nothing.
use mathlib.Core.Path.{◌≡◌, sym, ap, ◌∙◌}
use mathlib.Core.Bool.{Bool}
use mathlib.Core.List.{List, map}
use Prim.Native.Nat.{ℕ}
use native.Mathlib.Omega.{arith}
use lib.IntN.{ℤ, pos, ◌+ℤ◌}
use lib.ListN.{get_or, get_or-map}
use mir.Syntax.{w32}
use mir.ValLaws.{to_z-of_z}
use Rattle.whole.specs.Sums.{item}
use Rattle.whole.specs.Search.{cell_at}
use Rattle.whole.proofs.Search.{seek_stop, seek-step, seek-end}
use Rattle.octets.specs.Octets.{is_byte}
use Rattle.lossless.specs.Gains.{later_ok}
use Rattle.lossless.specs.Step.{sample}
use Rattle.bytesteps.proofs.block.first_leaving.Goals as goal

-- the test of a byte
tested : (start stride k : ℕ) (p : List ℕ) (g : List ℤ) {i : ℕ} {e : ℤ} {b : Bool} → i ≡ cell_at start stride 4 k → e ≡ item g k → b ≡ is_byte (pos (get_or p i 0) +ℤ e)
    → b ≡ later_ok (sample 8) (cell_at start stride 4) (map pos p) (item g) k
tested start stride k p g s f t =
    t ∙ (λ j. is_byte (pos (get_or p (s j) 0) +ℤ f j)) ∙ ap (λ z. is_byte (z +ℤ item g k)) (sym (get_or-map pos p (cell_at start stride 4 k) 0))

pub returns-then-leaves-clause-value : goal.returns-then-leaves-clause-value
returns-then-leaves-clause-value c =
    (c.loop-k.invariant ∙ seek_stop _ _ _ c.loop-k-test.true (sym (tested c.args.start c.args.stride c.loop-k.k c.args.plane.now c.args.gains.now c.spot_of-i.ensures (to_z-of_z w32 _ (record { sfits = c.stays-arg-1.given })) c.stays-leaves.ensures) ∙ c.if-leaves.true), c.loop-k-test.true)

pub returns-then-leaves-clause-by_index : goal.returns-then-leaves-clause-by_index
returns-then-leaves-clause-by_index c = λ k h. omega (arith, c.type_inv.plane (cell_at c.args.start c.args.stride 4 k))

pub loop-k-preserved : goal.loop-k-preserved
loop-k-preserved c = c.loop-k.invariant ∙ seek-step _ _ _ c.loop-k-test.true (sym (tested c.args.start c.args.stride c.loop-k.k c.args.plane.now c.args.gains.now c.spot_of-i.ensures (to_z-of_z w32 _ (record { sfits = c.stays-arg-1.given })) c.stays-leaves.ensures) ∙ c.if-leaves.false)

pub returns-clause-value : goal.returns-clause-value
returns-clause-value c = c.loop-k.invariant ∙ seek-end _ _ _ c.loop-k-test.false ∙ omega arith

pub returns-clause-by_index : goal.returns-clause-by_index
returns-clause-by_index c = λ k h. omega (arith, c.type_inv.plane (cell_at c.args.start c.args.stride 4 k))
