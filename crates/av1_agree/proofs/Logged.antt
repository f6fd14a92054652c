-- What both transforms share in the comparison with the document: a run that stops at the first value that does not fit, against the log of all values. Assumes nothing.
--     Same                the answer and the list of a run, against what the log says
--     inputs-agree        the search of the inputs, against the log that they stand in front of
--     ends_same           the whole call, once the run is the same
use mathlib.Core.Path.{◌≡◌, refl, sym, ap, ◌∙◌}
use mathlib.Core.Bool.{Bool, true, false, cond}
use mathlib.Core.List.{List, [], ◌∷◌, ◌++◌}
use Prim.Native.Nat.{ℕ, suc, ◌+◌, ◌<◌}
use native.Mathlib.Nat as N
use native.Mathlib.Omega.{arith}
use borrow.Author.Tests.{eqb-true, le-leb, lt-leb}
use lib.Dec.{eqb}
use lib.IntN.{ℤ}
use lib.ListN.{length}
use Rattle.whole.specs.Sums.{item}
use Rattle.answers.specs.declared.Answer.{Answer}
use Rattle.answers.specs.Answers.{refused, unless, searched, ends}
use Rattle.whole.specs.Numbers.{in_range}
use Rattle.whole.specs.Search.{seek}
use Rattle.av1.specs.Calls.{settled}
use Rattle.av1_agree.specs.Document.{first_out}

-- a run's answer and list, against what the log says
pub record Same (w : Answer × List ℤ) (v : Answer) (u : List ℤ) : Type 0 where
  pub answer : w.0 ≡ v
  pub list : v.number ≡ 0 → w.1 ≡ u

-- ---- the inputs
module _ (lo hi : ℤ) (p : ℕ → Bool) (vs : List ℤ) where
  pub inputs-agree : (k : ℕ) (l : List ℤ) → ((i : ℕ) → i < length l → p (k + i) ≡ in_range lo hi (item l i)) → first_out lo hi k (l ++ vs) ≡ searched 15 0 (k + length l) (λ i. i) (seek p k (length l)) (first_out lo hi (k + length l) vs)
  unfolding first_out seek
  inputs-agree k [] h = rw (N.add-zero k, le-leb k k (N.le_refl k))
  inputs-agree k (x ∷ l) h = by-test (p k) (ap p (sym (N.add-zero k)) ∙ h 0 (omega arith)) (inputs-agree (suc k) l (λ i q. ap p (omega arith) ∙ h (suc i) (omega arith)))
    where
      by-test : (b : Bool) → b ≡ in_range lo hi x → first_out lo hi (suc k) (l ++ vs) ≡ searched 15 0 (suc k + length l) (λ i. i) (seek p (suc k) (length l)) (first_out lo hi (suc k + length l) vs) → unless (in_range lo hi x) (refused 15 0 k) (first_out lo hi (suc k) (l ++ vs)) ≡ searched 15 0 (k + suc (length l)) (λ i. i) (cond b (seek p (suc k) (length l)) k) (first_out lo hi (k + suc (length l)) vs)
      by-test true e f =
          let j : k + suc (length l) ≡ suc k + length l = omega arith in
          rw (← e, j) f
      by-test false e f = rw (← e, lt-leb (k + suc (length l)) k (omega arith))

pub ends_same : (t : List ℤ) (w : Answer × List ℤ) (v : Answer) (u : List ℤ) → Same w v u → settled t w ≡ ends v t u
ends_same t w v u s = ap (λ (a : Answer). ends a t w.1) s.answer ∙ by_number (eqb v.number 0) refl
  where
    by_number : (b : Bool) → eqb v.number 0 ≡ b → ◌≡◌ {A = Answer × List ℤ} (v, unless b t w.1) (v, unless b t u)
    by_number true e = ap (λ (l : List ℤ). (v, l)) (s.list (eqb-true v.number 0 e))
    by_number false e = refl
