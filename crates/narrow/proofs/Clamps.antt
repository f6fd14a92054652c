-- The clamp to 16 bits, and the clamp of a residual, which can't be seen. Assumes nothing.
--     fits16     a number in -2^15 .. 2^15 - 1 fits 16 bits
--     unseen     clamp 0 m (p + clamp lo m e) is clamp 0 m (p + e), for p in 0 .. m and m + lo at most 0
use mathlib.Core.Path.{◌≡◌, refl, sym, ap, ◌∙◌, subst}
use mathlib.Core.Bool.{Bool, true, false, cond}
use Prim.Native.Nat.{ℕ, zero, suc, ◌≤◌, zero-le}
use native.Mathlib.Nat as N
use native.Mathlib.Omega.{arith}
use borrow.Author.Tests.{leb-true, le-ltb, ltb-false}
use lib.Dec.{T, leb, ltb, leb→le, le→leb, ltb→lt}
use lib.IntN.{ℤ, pos, negsuc, ◌+ℤ◌, +ℤ_idl}
use lib.Signed.{le_z, lt_z, ◌≤ℤ◌, ≤ℤ_refl}
use mir.Syntax.{w16}
use mir.Val.{SFits}
use Rattle.whole.specs.Numbers.{in_range, clamp, lowest, highest}
use Rattle.whole.proofs.Order.{≤ℤ-trans, +ℤ-mono}
use Rattle.whole.proofs.Tests.{both}

pub fits16 : (z : ℤ) → in_range (lowest 15) (highest 15) z ≡ true → SFits w16 z
fits16 (pos n) e = record { sfits = let l : n ≤ 32767 = leb-true n 32767 e in omega arith }
fits16 (negsuc n) e = record { sfits = let l : n ≤ 32767 = leb-true n 32767 (both (leb n 32767) true e).0 in omega arith }

-- ---- the clamp of a residual can't be seen
lt-le : (a b : ℤ) → T (lt_z a b) → T (le_z a b)
lt-le (pos a) (pos b) t = le→leb a b (N.le_of_lt (ltb→lt a b t))
lt-le (pos a) (negsuc b) t = absurd t
lt-le (negsuc a) (pos b) t = tt
lt-le (negsuc a) (negsuc b) t = le→leb b a (N.le_of_lt (ltb→lt b a t))

none : (m : ℕ) → ltb m 0 ≡ false
none m = le-ltb m 0 zero-le

low_end : (m : ℕ) (x : ℤ) → x ≤ℤ pos 0 → clamp (pos 0) (pos m) x ≡ pos 0
unfolding clamp
low_end m (pos zero) h = rw (none m) refl
low_end m (pos (suc n)) h = absurd (N.not-suc-le-zero (leb→le (suc n) 0 h.le))
low_end m (negsuc n) h = refl

high_end : (m : ℕ) (x : ℤ) → pos m ≤ℤ x → clamp (pos 0) (pos m) x ≡ pos m
unfolding clamp
high_end m (negsuc n) h = absurd h.le
high_end m (pos n) h = rw (none n) (go (ltb m n) refl)
  where
    same : n ≤ m → m ≤ n → n ≡ m
    same a b = omega arith

    go : (b : Bool) → ltb m n ≡ b → cond b (pos m) (pos n) ≡ pos m
    go true e = refl
    go false e = ap pos (same (ltb-false m n e) (leb→le m n h.le))

clamp-is : (lo hi e : ℤ) (s t : Bool) → lt_z e lo ≡ s → lt_z hi e ≡ t → clamp lo hi e ≡ cond s lo (cond t hi e)
unfolding clamp
clamp-is lo hi e s t u v = ap (λ b. cond b lo (cond (lt_z hi e) hi e)) u ∙ ap (λ b. cond s lo (cond b hi e)) v

pub unseen : (m : ℕ) (lo p e : ℤ) → pos 0 ≤ℤ p → p ≤ℤ pos m → (pos m +ℤ lo) ≤ℤ pos 0 → clamp (pos 0) (pos m) (p +ℤ clamp lo (pos m) e) ≡ clamp (pos 0) (pos m) (p +ℤ e)
unseen m lo p e a b c = by-low (lt_z e lo) refl
  where
    under : (x : ℤ) → x ≤ℤ lo → clamp (pos 0) (pos m) (p +ℤ x) ≡ pos 0
    under x h = low_end m (p +ℤ x) (≤ℤ-trans (+ℤ-mono b h) c)

    over : (x : ℤ) → pos m ≤ℤ x → clamp (pos 0) (pos m) (p +ℤ x) ≡ pos m
    over x h = high_end m (p +ℤ x) (subst (λ (z : ℤ). z ≤ℤ (p +ℤ x)) (+ℤ_idl (pos m)) (+ℤ-mono a h))

    by_high : (t : Bool) → lt_z e lo ≡ false → lt_z (pos m) e ≡ t → clamp (pos 0) (pos m) (p +ℤ clamp lo (pos m) e) ≡ clamp (pos 0) (pos m) (p +ℤ e)
    by_high true u v =
        ap (λ z. clamp (pos 0) (pos m) (p +ℤ z)) (clamp-is lo (pos m) e false true u v) ∙ over (pos m) (≤ℤ_refl (pos m))
        ∙ sym (over e (record { le = lt-le (pos m) e (subst T (sym v) tt) }))
    by_high false u v = ap (λ z. clamp (pos 0) (pos m) (p +ℤ z)) (clamp-is lo (pos m) e false false u v)

    by-low : (s : Bool) → lt_z e lo ≡ s → clamp (pos 0) (pos m) (p +ℤ clamp lo (pos m) e) ≡ clamp (pos 0) (pos m) (p +ℤ e)
    by-low true u =
        ap (λ z. clamp (pos 0) (pos m) (p +ℤ z)) (clamp-is lo (pos m) e true (lt_z (pos m) e) u refl) ∙ under lo (≤ℤ_refl lo)
        ∙ sym (under e (record { le = lt-le e lo (subst T (sym u) tt) }))
    by-low false u = by_high (lt_z (pos m) e) u refl
