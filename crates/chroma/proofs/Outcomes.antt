-- What the promise of `cctx` gives, from document 01, "Chroma pairs and WHT" and "How much each call owes". Assumes nothing.
--     pair-turned       pair i of an accepted call's result, by pair i, the angle numbers and the depth
--     pair-alone        two accepted calls with equal angle numbers and depth make equal pairs of equal pairs, wherever they stand
--     refused-leaves    a refused call leaves both lists as they were
--     same_outcome      two outcomes that the promise allows are the same
use mathlib.Core.Path.{◌≡◌, sym, ap, ◌∙◌}
use mathlib.Core.List.{List}
use Prim.Native.Nat.{ℕ, ◌<◌}
use native.Mathlib.Omega.{arith}
use lib.IntN.{ℤ, pos}
use lib.ListN.{length}
use Rattle.whole.specs.Sums.{item}
use Rattle.whole.proofs.Fill.{tab-at}
use Rattle.answers.specs.declared.Answer.{Answer}
use Rattle.answers.proofs.Verdicts.{taken, left, one-outcome}
use Rattle.chroma.specs.Chroma.{low, high, turn_u, turn_v, turned, verdict, cctx_of}
use Rattle.chroma.proofs.Verdict.{accepted}

module _ (s c : ℤ) (depth : ℕ) where
  -- the call accepts the lists u and v
  abbrev pub Takes : List ℤ → List ℤ → Type 0
  Takes u v = (cctx_of u v s c depth).0.number ≡ 0

  pub pair-turned : (u v : List ℤ) → Takes u v → (i : ℕ) → i < length u → (item (cctx_of u v s c depth).1.0 i ≡ turn_u (low depth) (high depth) s c (item u i) (item v i)) × (item (cctx_of u v s c depth).1.1 i ≡ turn_v (low depth) (high depth) s c (item u i) (item v i))
  unfolding cctx_of
  pair-turned u v h i l =
      let w = taken {A = List ℤ × List ℤ} (verdict u v s c depth) (u, v) (turned (low depth) (high depth) s c u v) h in
      let m : i < length v = omega (arith, (accepted u v s c depth h).same) in
      (ap (λ r. item r.1.0 i) w ∙ tab-at (pos 0) (length u) _ i l, ap (λ r. item r.1.1 i) w ∙ tab-at (pos 0) (length v) _ i m)

  pub pair-alone : (u v u' v' : List ℤ) → Takes u v → Takes u' v' → (i j : ℕ) → i < length u → j < length u' → item u i ≡ item u' j → item v i ≡ item v' j → (item (cctx_of u v s c depth).1.0 i ≡ item (cctx_of u' v' s c depth).1.0 j) × (item (cctx_of u v s c depth).1.1 i ≡ item (cctx_of u' v' s c depth).1.1 j)
  pair-alone u v u' v' h h' i j l l' e f =
      let p = pair-turned u v h i l in
      let q = pair-turned u' v' h' j l' in
      (p.0 ∙ (rw (e, f)) ∙ sym q.0, p.1 ∙ (rw (e, f)) ∙ sym q.1)

  pub refused-leaves : (u v : List ℤ) → (Takes u v → ⊥) → (cctx_of u v s c depth).1 ≡ (u, v)
  unfolding cctx_of
  refused-leaves u v h = left {A = List ℤ × List ℤ} (verdict u v s c depth) (u, v) (turned (low depth) (high depth) s c u v) h

  pub same_outcome : (u v : List ℤ) (x y : Answer × (List ℤ × List ℤ)) → x ≡ cctx_of u v s c depth → y ≡ cctx_of u v s c depth → x ≡ y
  same_outcome u v x y p q = one-outcome p q
