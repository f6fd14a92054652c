use mathlib.Core.List.{List}
use Prim.Native.Nat.{ℕ}
use lib.IntN.{ℤ, pos}
use lib.ListN.{get_or, take}
use Rattle.whole.specs.Sums.{fold_at}
use Rattle.whole.specs.Lanes.{col}
use Rattle.tables.proofs.LiveLanes.{Growing}
use Rattle.lanes.specs.Halves.{odds_of}
use Rattle.lanes.proofs.dct.grow.Given as goal

-- the join of output j in lane k
abbrev pub joins : {R : Type 0} → (R → ℕ → ℤ) → ℕ → List ℤ → ℕ → List R → List R → ℕ → ℕ → ℤ
joins at h t start c e k = fold_at h (λ i. get_or (take h (col at k e)) i (pos 0)) (λ i. get_or (odds_of h t start (col at k c)) i (pos 0))

abbrev pub invariant-loop-m : goal.invariant-loop-m
invariant-loop-m g l = let at = g.L.Lanes.lane in Growing at l.h (joins at l.h l.t l.start l.c l.initial.e) l.initial.e l.e l.m
