-- What the promise of `av1_inv_wht4x4` gives, from document 01, "How much each call owes". Assumes nothing.
--     wht-leaves      a refused call leaves its list as it was
--     wht-same        two outcomes that the promise allows are the same
use mathlib.Core.Path.{◌≡◌}
use mathlib.Core.List.{List}
use Prim.Native.Nat.{ℕ}
use lib.IntN.{ℤ}
use Rattle.answers.specs.declared.Answer.{Answer}
use Rattle.answers.proofs.Verdicts.{left, one-outcome}
use Rattle.wht.specs.Wht.{iwht}
use Rattle.av1_wht.specs.Wht.{quarters, wht_verdict, wht_of}

module _ (bits : ℕ) (t : List ℤ) where
  pub wht-leaves : ((wht_of bits t).0.number ≡ 0 → ⊥) → (wht_of bits t).1 ≡ t
  unfolding wht_of
  wht-leaves h = left (wht_verdict bits t) t (iwht (quarters t)) h

  pub wht-same : (x y : Answer × List ℤ) → x ≡ wht_of bits t → y ≡ wht_of bits t → x ≡ y
  wht-same x y p q = one-outcome p q
