-- `passes::block::rows` meets its contract: eight rows at a time, four or one, the promise is the same. Assumes nothing.
use mathlib.Core.Path.{◌≡◌, subst}
use mathlib.Core.Bool.{true}
use mathlib.Core.List.{List}
use Prim.Native.Nat.{ℕ, ◌+◌, ◌*◌, ◌%◌, ◌^◌, ◌≤◌, ◌<◌}
use native.Mathlib.Omega.{arith}
use lib.IntN.{ℤ, pos, nat_abs}
use lib.ListN.{length, get_or}
use Rattle.whole.specs.Lanes.{Places}
use Rattle.whole.specs.Grid.{grid_of, rows_by, Same}
use Rattle.tables.specs.Sizes.{cut}
use Rattle.tables.specs.Kinds.{has_kind}
use Rattle.tables.specs.Dense.{first_dense}
use Rattle.tables.proofs.Kernels.{cut_most}
use Rattle.passes.proofs.Places.{row-places, lines-places, lines-bound, lines-gained}
use Rattle.passes.proofs.block.rows.Goals as goal
use Rattle.passes.proofs.block.rows.Lts as lts
use Rattle.passes.proofs.block.rows.Reads as reads
use Rattle.passes.proofs.block.rows.Tie as tie

abbrev Start : Type 0
Start = lts.Start tie.the-claims reads.Pre reads.Post tie.handed_clauses

placed : (w k x : ℕ) → k * w + x * 1 ≡ k * w + x
placed w k x = omega arith

module _ (s : Start) where
  abbrev cell : ℕ → ℕ → ℕ
  cell k x = k * s.args.sw + x

  abbrev Asks : Type 0
  Asks =
      ((has_kind s.args.n s.args.code ≡ true) × (cut s.args.n ≡ s.args.sw) × (s.args.sh % 4 ≡ 0) × (s.args.sh ≤ 32) × (s.args.sw ≤ 32) × (s.args.live ≤ s.args.sw) × Places s.args.sh s.args.sw (λ k x. k * s.args.sw + x * 1) (length s.args.work.now))
      × ((k x : ℕ) → k < s.args.sh → x < s.args.live → nat_abs (get_or s.args.work.now (k * s.args.sw + x * 1) (pos 0)) ≤ 2 ^ 19)

  asks : Asks
  asks = (
    (s.requires.0, s.requires.1, s.requires.2, s.requires.3, subst (λ (j : ℕ). j ≤ 32) s.requires.1 (cut_most s.args.n), s.requires.5, lines-places s.args.sw 1 cell (placed s.args.sw) (row-places s.args.sw s.args.sh (length s.args.work.now) s.requires.4)),
    lines-bound s.args.sw 1 cell (placed s.args.sw) (2 ^ 19) s.args.work.now s.requires.6,
  )

  gives : (u : List ℤ) → ((k x : ℕ) → k < s.args.sh → x < s.args.sw → get_or u (k * s.args.sw + x * 1) (pos 0) ≡ rows_by (first_dense s.args.n s.args.code s.args.live) s.args.sw (λ k x. get_or s.args.work.now (k * s.args.sw + x * 1) (pos 0)) k x)
      → Same s.args.sw s.args.sh (grid_of s.args.sw u) (rows_by (first_dense s.args.n s.args.code s.args.live) s.args.sw (grid_of s.args.sw s.args.work.now))
  gives u h r x a b = lines-gained s.args.sw 1 cell (placed s.args.sw) (first_dense s.args.n s.args.code s.args.live) s.args.sw s.args.work.now u r x (h r x a b)

pub lane_pass-requires : goal.lane_pass-requires
lane_pass-requires c = let q = asks c.before.before.before in record { code_value = q.0; by_index = q.1 }

pub lane_pass-requires-in-Four : goal.lane_pass-requires-in-Four
lane_pass-requires-in-Four c = let q = asks c.before.before.before in record { code_value = q.0; by_index = q.1 }

pub row_pass-requires : goal.row_pass-requires
row_pass-requires c = (c.requires.0, c.requires.1, c.requires.4, c.requires.5, c.requires.6)

pub returns-in-Eight : goal.returns-in-Eight
returns-in-Eight c = gives c.before.before.before.before.before c.lane_pass.new.work c.lane_pass.ensures

pub returns-in-Four : goal.returns-in-Four
returns-in-Four c = gives c.before.before.before.before.before c.lane_pass-in-Four.new.work c.lane_pass-in-Four.ensures

pub returns-in-One : goal.returns-in-One
returns-in-One c = c.row_pass.ensures
