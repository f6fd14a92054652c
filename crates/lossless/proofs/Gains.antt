-- Laws of `add_on` and `gain`. Assumes nothing.
--     length-add_on, get_or-add_on, add_on-same      the plane's length, a sample that gains, a sample that does not
--     add_on-none, add_on-back, add_on-swap        nothing gained; what is gained and lost again; gains in either order
--     gain-back, gain-none, gain-at             what an index gains: opposite numbers, none of the indices, one of them
--     add_on-next                                a loop that adds number after number: one turn more
use mathlib.Core.Path.{◌≡◌, refl, sym, ap, ◌∙◌, subst}
use mathlib.Core.Bool.{Bool, true, false, cond}
use mathlib.Core.List.{List, [], ◌∷◌}
use Prim.Native.Nat.{ℕ, zero, suc, ◌+◌, ◌<◌}
use native.Mathlib.Nat.{not-suc-le-zero}
use native.Mathlib.Decide.{ℕ_discrete}
use native.Mathlib.Numerals.{add-one}
use native.Mathlib.Omega.{arith}
use borrow.Author.Tests.{eqb-true, eqb-false, ne_eqb, eq-eqb}
use lib.Dec.{eqb}
use lib.IntN.{ℤ, pos, ◌+ℤ◌, +ℤ_assoc, +ℤ_comm, +ℤ_idr}
use lib.ListN.{length, set, length-set}
use lib.Seq.{ext_get_or, get_or-set_same, get_or-set_other}
use Rattle.whole.specs.Sums.{item}
use Rattle.lossless.specs.Gains.{add_on, gain}

pub length-add_on : (f : ℕ → ℤ) (p : List ℤ) → length (add_on f p) ≡ length p
unfolding add_on
length-add_on f [] = refl
length-add_on f (x ∷ p) = ap suc (length-add_on (λ i. f (suc i)) p)

pub get_or-add_on : (f : ℕ → ℤ) (p : List ℤ) (i : ℕ) → i < length p → item (add_on f p) i ≡ item p i +ℤ f i
unfolding add_on
get_or-add_on f [] i h = absurd (not-suc-le-zero h)
get_or-add_on f (x ∷ p) zero h = refl
get_or-add_on f (x ∷ p) (suc i) h = get_or-add_on (λ j. f (suc j)) p i (omega arith)

-- past the end too
pub add_on-same : (f : ℕ → ℤ) (p : List ℤ) (i : ℕ) → f i ≡ pos 0 → item (add_on f p) i ≡ item p i
unfolding add_on
add_on-same f [] i e = refl
add_on-same f (x ∷ p) zero e = ap (λ z. x +ℤ z) e ∙ +ℤ_idr x
add_on-same f (x ∷ p) (suc i) e = add_on-same (λ j. f (suc j)) p i e

pub add_on-none : (p : List ℤ) → add_on (λ _. pos 0) p ≡ p
unfolding add_on
add_on-none [] = refl
add_on-none (x ∷ p) = λ i. +ℤ_idr x i ∷ add_on-none p i

pub add_on-back : (f g : ℕ → ℤ) → ((i : ℕ) → f i +ℤ g i ≡ pos 0) → (p : List ℤ) → add_on g (add_on f p) ≡ p
unfolding add_on
add_on-back f g h [] = refl
add_on-back f g h (x ∷ p) =
    λ i. (+ℤ_assoc x (f 0) (g 0) ∙ ap (λ z. x +ℤ z) (h 0) ∙ +ℤ_idr x) i ∷ add_on-back (λ j. f (suc j)) (λ j. g (suc j)) (λ j. h (suc j)) p i

pub add_on-swap : (f g : ℕ → ℤ) (p : List ℤ) → add_on f (add_on g p) ≡ add_on g (add_on f p)
unfolding add_on
add_on-swap f g [] = refl
add_on-swap f g (x ∷ p) =
    λ i. (+ℤ_assoc x (g 0) (f 0) ∙ ap (λ z. x +ℤ z) (+ℤ_comm (g 0) (f 0)) ∙ sym (+ℤ_assoc x (f 0) (g 0))) i ∷ add_on-swap (λ j. f (suc j)) (λ j. g (suc j)) p i

module _ (at : ℕ → ℕ) where
  pub gain-back : (g h : ℕ → ℤ) → ((k : ℕ) → g k +ℤ h k ≡ pos 0) → (n i : ℕ) → gain at g n i +ℤ gain at h n i ≡ pos 0
  unfolding gain
  gain-back g h e zero i = refl
  gain-back g h e (suc n) i = by_index (eqb (at n) i) (gain-back g h e n i)
    where
      by_index : (b : Bool) → gain at g n i +ℤ gain at h n i ≡ pos 0 → cond b (g n) (gain at g n i) +ℤ cond b (h n) (gain at h n i) ≡ pos 0
      by_index true r = e n
      by_index false r = r

  pub gain-none : (g : ℕ → ℤ) (n i : ℕ) → ((k : ℕ) → k < n → at k ≡ i → ⊥) → gain at g n i ≡ pos 0
  unfolding gain
  gain-none g zero i h = refl
  gain-none g (suc n) i h = rw (ne_eqb (at n) i (h n (omega arith))) (gain-none g n i (λ k l. h k (omega arith)))

  -- where no other of the n indices is the same
  pub gain-at : (g : ℕ → ℤ) (n k : ℕ) → ((j : ℕ) → j < n → at j ≡ at k → j ≡ k) → k < n → gain at g n (at k) ≡ g k
  unfolding gain
  gain-at g zero k one h = absurd (not-suc-le-zero h)
  gain-at g (suc n) k one h = by_index (eqb (at n) (at k)) refl (gain-at g n k (λ j l. one j (omega arith)))
    where
      by_index : (b : Bool) → eqb (at n) (at k) ≡ b → (k < n → gain at g n (at k) ≡ g k) → cond b (g n) (gain at g n (at k)) ≡ g k
      by_index true e r = ap g (one n (omega arith) (eqb-true (at n) (at k) e))
      by_index false e r = r (below (λ q. eqb-false (at n) (at k) e (ap at q)))
        where
          below : (n ≡ k → ⊥) → k < n
          below f = omega arith

  -- ---- a loop that has added the first n numbers to the plane p, and comes to an index that is none of theirs
  module _ (g : ℕ → ℤ) (n : ℕ) (p : List ℤ) (fresh : (k : ℕ) → k < n → at k ≡ at n → ⊥) where
    pub still : item (add_on (gain at g n) p) (at n) ≡ item p (at n)
    still = add_on-same (gain at g n) p (at n) (gain-none g n (at n) fresh)

    pub add_on-next : at n < length p → {x : ℤ} → x ≡ item p (at n) +ℤ g n → set (add_on (gain at g n) p) (at n) x ≡ add_on (gain at g (n + 1)) p
    unfolding gain
    add_on-next h {x} e =
        rw (add-one n)
        (ext_get_or (pos 0) (set (add_on (gain at g n) p) (at n) x) (add_on (gain at g (suc n)) p) (long ∙ sym (length-add_on (gain at g (suc n)) p))
        (λ i l. by_index i (subst (λ (m : ℕ). i < m) long l) (ℕ_discrete i (at n))))
      where
        long : length (set (add_on (gain at g n) p) (at n) x) ≡ length p
        long = length-set (add_on (gain at g n) p) (at n) x ∙ length-add_on (gain at g n) p

        by_index : (i : ℕ) → i < length p → Dec (i ≡ at n) → item (set (add_on (gain at g n) p) (at n) x) i ≡ item (add_on (gain at g (suc n)) p) i
        by_index i l (yes q) =
            ap (λ (j : ℕ). item (set (add_on (gain at g n) p) (at n) x) j) q
            ∙ get_or-set_same (add_on (gain at g n) p) (at n) x (pos 0) (subst (λ (m : ℕ). at n < m) (sym (length-add_on (gain at g n) p)) h)
            ∙ e
            ∙ sym (ap (λ (j : ℕ). item (add_on (gain at g (suc n)) p) j) q ∙ get_or-add_on (gain at g (suc n)) p (at n) h ∙ rw (eq-eqb (at n) (at n) refl))
        by_index i l (no q) =
            get_or-set_other (add_on (gain at g n) p) (at n) i x (pos 0) q ∙ get_or-add_on (gain at g n) p i l
            ∙ sym (get_or-add_on (gain at g (suc n)) p i l ∙ rw (ne_eqb (at n) i (λ r. q (sym r))))

pub gain-start : (p : List ℤ) (g : ℕ → ℤ) (at : ℕ → ℕ) → p ≡ add_on (gain at g 0) p
unfolding gain
gain-start p g at = sym (add_on-none p)
