-- A change on a screen leads to the wanted block. Assumes nothing.
--     arrives      where the block is ready and there is room for a step, the change is taken, and the plane then shows the wanted samples
use mathlib.Core.Path.{◌≡◌, sym, subst}
use mathlib.Core.Bool.{true}
use mathlib.Core.List.{List}
use Prim.Native.Nat.{ℕ, ◌+◌, ◌*◌, ◌≤◌}
use native.Mathlib.Omega.{arith}
use borrow.Author.Tests.{le-leb}
use lib.IntN.{ℤ, pos}
use lib.ListN.{length}
use Rattle.answers.specs.Answers.{done}
use Rattle.whole.specs.Sums.{tab}
use Rattle.whole.proofs.Tests.{and-true}
use Rattle.lossless.specs.Step.{place}
use Rattle.lossless.specs.Wanted.{Samples, Shows}
use Rattle.keeping.specs.Range.{Area}
use Rattle.history.specs.Calls.{Lent, room, step_of}
use Rattle.reached.proofs.Wanted.{exists}
use Rattle.screen.specs.Planes.{argument}
use Rattle.screen.specs.Steps.{wanted, ready}
use Rattle.screen.proofs.Arriving.{ready-is, levels-ready, ready-there}
use Rattle.past.specs.Commands.{changed_of, Past}
use Rattle.past.proofs.Pasts.{past-good}

module _ (a : Area) (d : ℕ) (list : List ℤ) (m : Lent) (p : Past a m) where
  abbrev row : ℕ
  row = argument list 0

  abbrev column : ℕ
  column = argument list 1

  pub arrives : 8 ≤ d → d ≤ 12 → a.width ≤ a.stride → a.stride ≤ 320 → 4 ≤ a.rows → a.rows ≤ 256 → length m.plane ≡ a.stride * a.rows
      → ready d a.stride a.width a.rows row column m.plane ≡ true → Samples d (wanted list) → room m.steps ≡ true
      → ((changed_of a d list m).0 ≡ done) × Shows (changed_of a d list m).1.plane (place d a.stride a.width row column) (wanted list)
  unfolding changed_of
  arrives d8 d12 wide long low high size on samples free =
      subst (λ v. ((step_of a d row column v m).0 ≡ done) × Shows (step_of a d row column v m).1.plane (place d a.stride a.width row column) (wanted list))
      (sym (levels-ready d a.stride a.width a.rows row column m.plane (wanted list) (tab 16 (λ _. pos 0)) on))
      (exists a p.still m (past-good a m p) d row column (wanted list)
      (and-true (le-leb 4 a.rows low) (le-leb a.rows 65536 (omega (arith, high))))
      (le-leb (row + 4) a.rows (ready-is d a.stride a.width a.rows row column m.plane (wanted list) (tab 16 (λ _. pos 0)) on).1)
      (ready-there d a.stride a.width a.rows row column m.plane (wanted list) (tab 16 (λ _. pos 0)) on d8 d12 wide long high size) samples free)
