-- What the promise of `av1_inv_dct` gives, from document 01, "How much each call owes". Assumes nothing.
--     dct-leaves      a refused call leaves its list as it was
--     dct-same        two outcomes that the promise allows are the same
use mathlib.Core.Path.{◌≡◌, refl}
use mathlib.Core.Bool.{Bool, true, false, cond}
use mathlib.Core.List.{List}
use Prim.Native.Nat.{ℕ}
use lib.Dec.{eqb}
use lib.IntN.{ℤ}
use lib.ListN.{length}
use Rattle.answers.specs.declared.Answer.{Answer}
use Rattle.answers.proofs.Verdicts.{left, one-outcome}
use Rattle.av1.specs.Steps.{goes}
use Rattle.av1.specs.Tables.{angles_of, from_of, ops_of, count_of}
use Rattle.av1.specs.Calls.{low, high, permuted, settled, front, ran_of, dct_of}

-- a call that has its first refusals from a front, and else what its run has settled
leaves : (a : Answer) (t : List ℤ) (w : Answer × List ℤ) → ((cond (eqb a.number 0) (settled t w) (a, t)).0.number ≡ 0 → ⊥) → (cond (eqb a.number 0) (settled t w) (a, t)).1 ≡ t
leaves a t w h = by_front (eqb a.number 0) h
  where
    by_front : (b : Bool) → ((cond b (settled t w) (a, t)).0.number ≡ 0 → ⊥) → (cond b (settled t w) (a, t)).1 ≡ t
    by_front true h = left w.0 t w.1 h
    by_front false h = refl

module _ (n bits : ℕ) (t : List ℤ) where
  pub dct-leaves : ((dct_of n bits t).0.number ≡ 0 → ⊥) → (dct_of n bits t).1 ≡ t
  unfolding dct_of ran_of
  dct-leaves h = leaves (front n bits t) t (goes (low bits) (high bits) (angles_of n) (ops_of n) 0 (count_of n) (length t) (permuted (from_of n) t)) h

  pub dct-same : (x y : Answer × List ℤ) → x ≡ dct_of n bits t → y ≡ dct_of n bits t → x ≡ y
  dct-same x y p q = one-outcome p q
