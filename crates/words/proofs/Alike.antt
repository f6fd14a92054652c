-- Two lists of bytes, compared one byte after another. Assumes nothing.
--     alike_same, alike-equal     the test passes exactly where the lists are equal
--     alike-is                    it is what `==` answers of two slices
use mathlib.Core.Path.{◌≡◌, refl, sym, ap, subst}
use mathlib.Core.Bool.{true, ◌&&◌}
use mathlib.Core.List.{List, [], ◌∷◌}
use Prim.Native.Nat.{ℕ}
use borrow.Author.Tests.{eq-eqb, eqb-true}
use lib.Dec.{T, eqb}
use lib.Pointwise.{pointwise}
use Rattle.whole.proofs.Tests.{both}
use Rattle.words.specs.Words.{alike}

pub alike_same : (xs : List ℕ) → alike xs xs ≡ true
unfolding alike
alike_same [] = refl
alike_same (x ∷ xs) = rw (eq-eqb x x refl) (alike_same xs)

pub alike-equal : (xs ys : List ℕ) → alike xs ys ≡ true → xs ≡ ys
unfolding alike
alike-equal [] [] e = refl
alike-equal [] (y ∷ ys) e = absurd (subst T (sym e) tt)
alike-equal (x ∷ xs) [] e = absurd (subst T (sym e) tt)
alike-equal (x ∷ xs) (y ∷ ys) e =
    let h = both (eqb x y) (alike xs ys) e in
    rw (eqb-true x y h.0, alike-equal xs ys h.1)

pub alike-is : (xs ys : List ℕ) → pointwise eqb xs ys ≡ alike xs ys
unfolding alike
alike-is [] [] = refl
alike-is [] (y ∷ ys) = refl
alike-is (x ∷ xs) [] = refl
alike-is (x ∷ xs) (y ∷ ys) = ap (λ t. eqb x y && t) (alike-is xs ys)
