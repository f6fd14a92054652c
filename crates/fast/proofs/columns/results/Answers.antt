-- `fast::columns::results` meets its contract: the group is lent as a part, and goes through the DCT. Assumes nothing.
use mathlib.Core.Path.{◌≡◌, sym, ◌∙◌}
use mathlib.Core.List.{List}
use Prim.Native.Nat.{ℕ, ◌+◌, ◌*◌, ◌≤◌, ◌<◌, zero-le}
use native.Mathlib.Nat as N
use native.Mathlib.Omega.{arith}
use lib.IntN.{ℤ, pos}
use lib.ListN.{length}
use Rattle.whole.proofs.Lent.{lent, lent-count}
use Rattle.wide_rows.specs.Lines.{line}
use Rattle.fast.specs.Groups.{cell_of}
use Rattle.fast.proofs.Turned.{side_by_side}
use Rattle.fast.proofs.Gained.{cell-lent}
use Rattle.fast.proofs.columns.results.Goals as goal
use Rattle.fast.proofs.columns.results.Lts as lts
use Rattle.fast.proofs.columns.results.Reads as reads
use Rattle.fast.proofs.columns.results.Tie as tie

abbrev Start : Type 0
Start = lts.Start tie.the-claims reads.Pre reads.Post

module _ (s : Start) where
  fit : s.args.q * s.args.sh * 16 + s.args.sh * 16 ≤ length s.args.work.now
  fit = omega (arith, s.requires.1)

  abbrev group : List ℤ
  group = lent (s.args.q * s.args.sh * 16) (s.args.sh * 16) s.args.work.now

  cells : (l j : ℕ) → l < 16 → j < s.args.sh → line group l j ≡ cell_of s.args.sh s.args.work.now s.args.q j l
  cells = cell-lent s.args.sh s.args.q s.args.work.now s.requires.1

pub lines-requires : goal.lines-requires
lines-requires c =
    (c.requires.0, N.le_of_eq (sym (lent-count (pos 0) c.args.work.now (c.args.q * c.args.sh * 16) (c.args.sh * 16) (fit c.before.before))), c.requires.2, λ l j a b d. cells c.before.before l j a d ∙ c.requires.3 l j a b d)

pub returns : goal.returns
returns c =
    let n = c.lines in
    record {
      is = λ r l a b. side_by_side c.args.sh l (λ i. cell_of c.args.sh c.args.work.now c.args.q i l) (group c.before.before.before.before) n.new.out n.ensures.0 b (λ x h. cells c.before.before.before.before l x b h) r a;
      small = λ r l a b. n.ensures.1 l r b zero-le a;
    }
