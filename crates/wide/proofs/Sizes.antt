-- The four lengths of a line. Assumes nothing.
--     at_size     what is said of a length is said of the number that was matched with it, and within the widest bound
--     only-32     a length that is not 4, 8 or 16 is 32
--     quiet       lines whose first numbers count, and no more than four of them
use mathlib.Core.Path.{◌≡◌, refl, sym, subst}
use mathlib.Core.List.{List}
use Prim.Native.Nat.{ℕ, ◌^◌, ◌≤◌, ◌<◌}
use native.Mathlib.Nat as N
use lib.IntN.{ℤ}
use Rattle.tables.specs.Dense.{dct_table}
use Rattle.wide_rows.specs.Lines.{Room, Silent, Transformed, Sized, s4, s8, s16, s32}

pub at_size : (v : ℕ) {n m : ℕ} (w out : List ℤ) → v ≤ 4 → n ≡ m → Transformed m (dct_table m) 16 w out × Room v 0 m out → Transformed n (dct_table n) 16 w out × Room 4 0 n out
at_size v w out h e p =
    subst (λ (k : ℕ). Transformed k (dct_table k) 16 w out × Room 4 0 k out) (sym e)
    (p.0, λ l r k x y. N.le_trans (p.1 l r k x y) (N.add-le-add (N.le_refl (2 ^ 24)) (N.mul-le-mul_right (2 ^ 26) h)))

pub only-32 : {n : ℕ} → Sized n → (n ≡ 4 → ⊥) → (n ≡ 8 → ⊥) → (n ≡ 16 → ⊥) → n ≡ 32
only-32 s4 a b c = absurd (a refl)
only-32 s8 a b c = absurd (b refl)
only-32 s16 a b c = absurd (c refl)
only-32 s32 a b c = refl

pub quiet : {n m live : ℕ} (w : List ℤ) → n ≡ m → live ≤ 4 → Silent n live w → Silent m 4 w
quiet w e h s l j a b c = s l j a (N.le_trans h b) (subst (λ (k : ℕ). j < k) (sym e) c)
