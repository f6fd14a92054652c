use mathlib.Core.List.{List}
use Prim.Native.Nat.{ℕ, ◌+◌}
use lib.IntN.{ℤ, pos, ◌+ℤ◌, ◌*ℤ◌}
use lib.ListN.{get_or}
use Rattle.whole.specs.Sums.{fold_at}
use Rattle.tables.proofs.LiveLanes.{Folding}
use Rattle.lanes.proofs.dct.g_head.Given as goal

-- the sums of output j in lane k: a has the first input times 64
module _ {R : Type 0} (at : R → ℕ → ℤ) (h : ℕ) (t : List ℤ) where
  abbrev pub evens : R → R → ℕ → ℕ → ℤ
  evens a c2 k j = at a k +ℤ at c2 k *ℤ get_or t (h + j) (pos 0)

  abbrev pub odds : R → R → ℕ → ℕ → ℤ
  odds c1 c3 k j = at c1 k *ℤ get_or t j (pos 0) +ℤ at c3 k *ℤ get_or t (h + h + j) (pos 0)

abbrev pub invariant-loop-m : goal.invariant-loop-m
invariant-loop-m g l =
    let at = g.L.Lanes.lane in
    Folding at l.h (λ k. fold_at l.h (evens at l.h l.t l.a l.c2 k) (odds at l.h l.t l.c1 l.c3 k)) l.e l.m
