-- Chroma pairs, from document 01, "Chroma pairs and WHT", and document 02, section 11. Assumes nothing.
--     pair-by-pair     pair i of an accepted call's result depends on pair i, the angle numbers and the depth: two accepted calls with equal angle numbers and
--                      depth make equal pairs of equal pairs, wherever they stand
--     back-accepted    turning back with the sine negated is accepted wherever turning was
--     turned-back      and if none of the four results was clamped, 65,536 times the returned number differs from (sin² + cos²) times the original by at most
--                      128 · (|sin| + |cos| + 256), for either member of the pair
--     any-turned-back  the same of the rule alone, for any clamping range and all whole numbers
use mathlib.Core.Path.{◌≡◌}
use mathlib.Core.List.{List}
use Prim.Native.Nat.{ℕ, ◌≤◌, ◌<◌}
use lib.IntN.{ℤ, nat_abs}
use lib.ListN.{length}
use Rattle.whole.specs.Sums.{item}
use Rattle.chroma.specs.Chroma.{low, high, cctx_of}
use Rattle.chroma.specs.Drift.{back_u_of, back_v, back_of, NoneClamped, drift, drift_bound}
use Rattle.chroma.proofs.Outcomes.{Takes, pair-alone}
use Rattle.chroma.proofs.Drift.{drift-u, drift-v, back-taken, calls-drift}

module _ (s c : ℤ) (depth : ℕ) where
  pub pair-by-pair : (u v u' v' : List ℤ) → Takes s c depth u v → Takes s c depth u' v' → (i j : ℕ) → i < length u → j < length u' → item u i ≡ item u' j → item v i ≡ item v' j
      → (item (cctx_of u v s c depth).1.0 i ≡ item (cctx_of u' v' s c depth).1.0 j) × (item (cctx_of u v s c depth).1.1 i ≡ item (cctx_of u' v' s c depth).1.1 j)
  pair-by-pair = pair-alone s c depth

  pub back-accepted : (u v : List ℤ) → Takes s c depth u v → (back_of u v s c depth).0.number ≡ 0
  back-accepted = back-taken s c depth

  pub turned-back : (u v : List ℤ) → Takes s c depth u v → (i : ℕ) → i < length u → NoneClamped (low depth) (high depth) s c (item u i) (item v i)
      → (nat_abs (drift s c (item u i) (item (back_of u v s c depth).1.0 i)) ≤ drift_bound s c) × (nat_abs (drift s c (item v i) (item (back_of u v s c depth).1.1 i)) ≤ drift_bound s c)
  turned-back = calls-drift s c depth

pub any-turned-back : (lo hi s c u v : ℤ) → NoneClamped lo hi s c u v → (nat_abs (drift s c u (back_u_of lo hi s c u v)) ≤ drift_bound s c) × (nat_abs (drift s c v (back_v lo hi s c u v)) ≤ drift_bound s c)
any-turned-back lo hi s c u v free = (drift-u lo hi s c u v free, drift-v lo hi s c u v free)
