-- Numbers d apart. Assumes nothing.
--     taps-length               as many as were asked for
--     taps-tab, taps-at         number i stands at place p + i d
--     even-taps, odd-taps       the even and the odd ones of n numbers d apart are h numbers 2 d apart
use mathlib.Core.Path.{◌≡◌, refl, sym, ap, ◌∙◌}
use mathlib.Core.List.{List, ◌∷◌}
use Prim.Native.Nat.{ℕ, zero, suc, ◌+◌, ◌*◌, ◌≤◌, ◌<◌}
use native.Mathlib.Nat as N
use native.Mathlib.Omega.{arith}
use lib.IntN.{ℤ, pos}
use lib.ListN.{length, get_or}
use Rattle.whole.specs.Sums.{tab}
use Rattle.whole.proofs.Fill.{tab-at, tab-same}
use Rattle.wide_rows.specs.Lines.{taps}

pub taps-length : (n p d : ℕ) (t : List ℤ) → length (taps n p d t) ≡ n
taps-length zero p d t = refl
taps-length (suc n) p d t = ap suc (taps-length n (p + d) d t)

pub taps-tab : (n p d : ℕ) (t : List ℤ) → taps n p d t ≡ tab n (λ i. get_or t (p + i * d) (pos 0))
taps-tab zero p d t = refl
taps-tab (suc n) p d t =
    ap (λ q. get_or t q (pos 0) ∷ taps n (p + d) d t) (first p d)
    ∙ ap (λ r. get_or t (p + 0 * d) (pos 0) ∷ r) (taps-tab n (p + d) d t ∙ tab-same n (λ i. get_or t (p + d + i * d) (pos 0)) (λ i. get_or t (p + suc i * d) (pos 0)) (λ i h. ap (λ q. get_or t q (pos 0)) (next i p d)))
  where
    first : (p d : ℕ) → p ≡ p + 0 * d
    first p d = omega (arith, N.zero-mul d)

    next : (i p d : ℕ) → p + d + i * d ≡ p + suc i * d
    next i p d = omega (arith, N.suc-mul i d)

pub taps-at : (n p d : ℕ) (t : List ℤ) (i : ℕ) → i < n → get_or (taps n p d t) i (pos 0) ≡ get_or t (p + i * d) (pos 0)
taps-at n p d t i h = ap (λ l. get_or l i (pos 0)) (taps-tab n p d t) ∙ tab-at (pos 0) n (λ j. get_or t (p + j * d) (pos 0)) i h

-- the even and the odd ones of n numbers d apart
module _ (h n : ℕ) (fit : h + h ≤ n) (l d : ℕ) (w : List ℤ) where
  pub even-taps : taps h l (d + d) w ≡ tab h (λ i. get_or (taps n l d w) (i + i) (pos 0))
  even-taps =
      taps-tab h l (d + d) w
      ∙ tab-same h (λ i. get_or w (l + i * (d + d)) (pos 0)) (λ i. get_or (taps n l d w) (i + i) (pos 0))
      (λ i q. ap (λ p. get_or w p (pos 0)) (place i) ∙ sym (taps-at n l d w (i + i) (omega arith)))
    where
      place : (i : ℕ) → l + i * (d + d) ≡ l + (i + i) * d
      place i = omega (arith, N.mul-add i d d, N.add-mul i i d)

  pub odd-taps : (q : ℕ) → q ≡ l + d → taps h q (d + d) w ≡ tab h (λ i. get_or (taps n l d w) (i + i + 1) (pos 0))
  odd-taps q e =
      taps-tab h q (d + d) w
      ∙ tab-same h (λ i. get_or w (q + i * (d + d)) (pos 0)) (λ i. get_or (taps n l d w) (i + i + 1) (pos 0))
      (λ i r. ap (λ p. get_or w p (pos 0)) (place i) ∙ sym (taps-at n l d w (i + i + 1) (omega arith)))
    where
      place : (i : ℕ) → q + i * (d + d) ≡ l + (i + i + 1) * d
      place i = omega (arith, e, N.mul-add i d d, N.add-mul i i d, N.add-mul (i + i) 1 d, N.one-mul d)
