-- The difference of two blocks in range, sixteen samples 0 .. 2^depth - 1 each at depth 12 at most, from the mission's third demand. Assumes nothing.
--     forward-sixteen, inverse-sixteen    either call accepts sixteen numbers of the size that it allows, and leaves their transform
--     forward-takes     `fwht4x4` accepts the wanted samples less the present ones, and leaves levels
--     inverse-takes     `iwht4x4` accepts those levels, and leaves the difference
--     leads             the present samples and what it left are the wanted ones
use mathlib.Core.Path.{◌≡◌, refl, sym, ap, ◌∙◌}
use mathlib.Core.Bool.{true}
use mathlib.Core.List.{List, [], ◌∷◌}
use Prim.Native.Nat.{ℕ, suc, ◌^◌, ◌≤◌, ◌<◌}
use native.Mathlib.Nat as N
use native.Mathlib.Omega.{arith}
use borrow.Author.Tests.{eq-eqb}
use lib.Dec.{lit≤}
use lib.IntN.{ℤ, pos, negsuc, nat_abs, ◌+ℤ◌, ◌-ℤ◌}
use lib.ListN.{length, get_or}
use lib.Pow.{pow_mono}
use Rattle.whole.specs.Numbers.{in_range, highest}
use Rattle.whole.specs.Sums.{tab, Within}
use Rattle.whole.proofs.Fill.{tab-at, within-tab}
use Rattle.whole.proofs.Linear.{lin}
use Rattle.whole.proofs.Machine.{var, ◌⊕◌, ◌⊖◌}
use Rattle.whole.proofs.Range.{in-range-size, size-in-range}
use Rattle.whole.proofs.Search.{seek-all}
use Rattle.whole.proofs.Size.{abs-sub}
use Rattle.whole.proofs.Sums.{within_all}
use Rattle.answers.specs.Answers.{done, refused, ends}
use Rattle.answers.specs.declared.Answer.{Answer}
use Rattle.answers.proofs.Verdicts.{opens, search-opens, taken}
use Rattle.wht.specs.Wht.{fwht, iwht}
use Rattle.wht.specs.Calls.{number_ok, verdict, outside, fwht_of, iwht_of}
use Rattle.wht.proofs.Inverse.{iwht-fwht, fwht-length}
use Rattle.wht.proofs.Size.{fwht-size}

-- ---- sixteen numbers of the size that a call allows
judged-done : (b : ℕ) (l : List ℤ) (n : ℕ) → length l ≡ 16 → Within (suc b) l → n ≡ 16 → verdict (negsuc b) (pos (suc b)) l n ≡ done
judged-done b l n e w f =
    opens (refused 6 1 0) _ (eq-eqb (length l) 16 e) ∙ opens (refused 6 3 0) (outside (negsuc b) (pos (suc b)) l) (eq-eqb n 16 f)
    ∙ search-opens 7 1 16 (λ k. k) _ done (N.le_of_eq (sym (seek-all (number_ok (negsuc b) (pos (suc b)) l) 0 16 (λ k h. size-in-range b (get_or l k (pos 0)) (within_all (suc b) l w k)))))

leaves : (a : Answer) (found work : List ℤ) → a ≡ done → ends a found work ≡ (done, work)
leaves a found work e = taken a found work (ap (λ x. x.number) e) ∙ ap (λ x. (x, work)) e

pub forward-sixteen : (l level : List ℤ) → length l ≡ 16 → Within 65535 l → length level ≡ 16 → fwht_of l level ≡ (done, fwht l)
unfolding fwht_of
forward-sixteen l level e w f = leaves _ level (fwht l) (judged-done 65534 l (length level) e w f)

pub inverse-sixteen : (l resid : List ℤ) → length l ≡ 16 → Within 262144 l → length resid ≡ 16 → iwht_of l resid ≡ (done, iwht l)
unfolding iwht_of
inverse-sixteen l resid e w f = leaves _ resid (iwht l) (judged-done 262143 l (length resid) e w f)

-- ---- from present samples to wanted ones, sixteen of each by their index
sample-small : (depth : ℕ) (z : ℤ) → depth ≤ 12 → in_range (pos 0) (highest depth) z ≡ true → nat_abs z ≤ 4095
sample-small depth z h e = in-range-size 4095 (pos 0) (highest depth) z (lit≤ tt) (let m : 2 ^ depth ≤ 4096 = pow_mono h in omega arith) e

module _
    (depth : ℕ) (deep : depth ≤ 12) (present wanted : ℕ → ℤ)
    (old : (k : ℕ) → k < 16 → in_range (pos 0) (highest depth) (present k) ≡ true)
    (new : (k : ℕ) → k < 16 → in_range (pos 0) (highest depth) (wanted k) ≡ true) where
  abbrev gap : List ℤ
  gap = tab 16 (λ k. wanted k -ℤ present k)

  gap-small : Within 8190 gap
  gap-small =
      within-tab 8190 16 (λ k. wanted k -ℤ present k)
      (λ k h. omega (arith, abs-sub (wanted k) (present k), sample-small depth (wanted k) deep (new k h), sample-small depth (present k) deep (old k h)))

  pub forward-takes : (level : List ℤ) → length level ≡ 16 → fwht_of gap level ≡ (done, fwht gap)
  forward-takes level e = forward-sixteen gap level refl (λ k h. N.le_trans (gap-small k h) (lit≤ tt)) e

  pub inverse-takes : (resid : List ℤ) → length resid ≡ 16 → iwht_of (fwht gap) resid ≡ (done, gap)
  inverse-takes resid e =
      inverse-sixteen (fwht gap) resid (fwht-length gap) (λ k h. N.le_trans (fwht-size gap gap-small k) (lit≤ tt)) e
      ∙ ap (λ (l : List ℤ). (done, l)) (iwht-fwht gap refl)

  pub leads : (k : ℕ) → k < 16 → present k +ℤ get_or (iwht (fwht gap)) k (pos 0) ≡ wanted k
  leads k h =
      rw (iwht-fwht gap refl, tab-at (pos 0) 16 (λ k. wanted k -ℤ present k) k h)
      (lin (var 0 ⊕ (var 1 ⊖ var 0)) (var 1) (present k ∷ wanted k ∷ []) tt)
