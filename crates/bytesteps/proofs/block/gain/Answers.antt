-- `bytesteps::block::gain` meets its contract: bytes are in range, so the search for one that would leave decides; where it finds none, the sum. Assumes nothing.
use mathlib.Core.Path.{◌≡◌, sym, ap, ◌∙◌}
use mathlib.Core.Bool.{true}
use mathlib.Core.List.{List, map}
use Prim.Native.Nat.{ℕ, ◌<◌}
use native.Mathlib.Nat.{le_of_eq}
use native.Mathlib.Omega.{arith}
use lib.IntN.{ℤ, pos, nat_abs}
use Rattle.whole.specs.Sums.{item}
use Rattle.whole.specs.Search.{seek, cell_at}
use Rattle.whole.proofs.Search.{seek-passed}
use Rattle.answers.specs.Answers.{done, refused}
use Rattle.answers.specs.declared.Reason.TheVariants.{Leaving}
use Rattle.answers.proofs.Verdicts.{search-stops, ends-err, ends-ok}
use Rattle.lossless.specs.Gains.{gained, later_ok}
use Rattle.lossless.specs.Step.{sample}
use Rattle.lossless.proofs.Blocks.{passed}
use Rattle.bytesteps.proofs.Sums.{present-bytes, no-eight}
use Rattle.bytesteps.proofs.block.gain.Goals as goal

-- no byte would leave where the search finds none
later : (at : ℕ → ℕ) (p : List ℤ) (g : ℕ → ℤ) → seek (later_ok (sample 8) at p g) 0 16 ≡ 16 → (k : ℕ) → k < 16 → later_ok (sample 8) at p g k ≡ true
later at p g e = seek-passed (later_ok (sample 8) at p g) 16 (le_of_eq (sym e))

pub add-requires-clause-by_index : goal.add-requires-clause-by_index
add-requires-clause-by_index c = later (cell_at c.args.start c.args.stride 4) (map pos c.args.plane.now) (item c.args.gains.now) c.in-None.ensures.value

pub returns-in-Some : goal.returns-in-Some
returns-in-Some c =
    let at = cell_at c.args.start c.args.stride 4 in
    let p = c.args.plane.now in
    let g = item c.args.gains.now in
    let f = c.in-Some.ensures.value in
    rw c.spot_of.ensures
    (ends-err p (map nat_abs (gained at g (map pos p))) (Leaving (at c.in-Some.k))
    (ap (λ k. refused 10 2 (at k)) (sym f.0)
    ∙ sym (no-eight at p c.in-Some.ensures.by_index g ∙ search-stops 10 2 16 at (seek (later_ok (sample 8) at (map pos p) g) 0 16) done (omega (arith, f.0, f.1)))))

pub returns-in-None : goal.returns-in-None
returns-in-None c =
    let at = cell_at c.args.start c.args.stride 4 in
    let p = c.args.plane.now in
    let g = item c.args.gains.now in
    rw c.add.ensures
    (ends-ok p (map nat_abs (gained at g (map pos p)))
    (sym (passed (sample 8) at (map pos p) g (record { present = present-bytes at p c.in-None.ensures.by_index; later = later at (map pos p) g c.in-None.ensures.value }))))
