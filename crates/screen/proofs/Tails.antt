-- Parts of a list that end where it ends, or start where it starts. Lists of anything. Assumes nothing.
--     tail-lent, tail-back       what `&t[a..]` lends, and the list when it is back
--     front-back                 the front of a list whose front was lent and is back
--     none                       the list of length 0
use mathlib.Core.Path.{◌≡◌, refl, ap, ◌∙◌}
use mathlib.Core.List.{List, [], ◌∷◌, ◌++◌}
use Prim.Native.Nat.{ℕ, ◌-◌}
use native.Mathlib.Nat.{le_refl, suc-ne-zero}
use borrow.Rule.Slice.PartMut.{put_mid}
use lib.ListN.{length, take, drop, length-drop, drop_of_length-le}
use lib.Seq.{take_all, take_at}

module _ {A : Type 0} where
  append-nil : (xs : List A) → xs ++ [] ≡ xs
  append-nil [] = refl
  append-nil (x ∷ xs) = ap (λ l. x ∷ l) (append-nil xs)

  pub none : (xs : List A) → length xs ≡ 0 → xs ≡ []
  none [] e = refl
  none (x ∷ xs) e = absurd (suc-ne-zero (length xs) e)

  pub tail-lent : (a : ℕ) (p : List A) → take (length p - a) (drop a p) ≡ drop a p
  tail-lent a p = take_all (length p - a) (drop a p) (rw (length-drop a p) (le_refl (length p - a)))

  pub tail-back : (a : ℕ) (p ys : List A) → put_mid a (length p - a) p ys ≡ take a p ++ ys
  tail-back a p ys =
      ap (λ t. take a p ++ (ys ++ t)) (drop_of_length-le (drop a p) {i = length p - a} (rw (length-drop a p) (le_refl (length p - a)))) ∙ ap (λ t. take a p ++ t) (append-nil ys)

  pub front-back : (n : ℕ) (p ys : List A) → length ys ≡ n → take n (ys ++ drop n p) ≡ ys
  front-back n p ys e = take_at ys (drop n p) n e
