-- The head of a DCT table in lanes: the room of its sums. Assumes nothing.
--     prod-size, sum-size          the sizes of a product and of a sum
--     prod-fits, sum_fits          a product with a weight fits, and a number with such a product added
--     both-fit, less-fit           a sum and a difference of two such numbers
--     within-front                 the first numbers of a list within a bound
--     head-small                   the numbers of a head are bytes
use mathlib.Core.Path.{◌≡◌, sym, ap, ◌∙◌, subst}
use mathlib.Core.Logic.{inl, inr}
use mathlib.Core.Bool.{Bool, true, ◌&&◌}
use mathlib.Core.List.{List, [], ◌∷◌}
use Prim.Native.Nat.{ℕ, zero, suc, ◌^◌, ◌≤◌, zero-le}
use native.Mathlib.Nat as N
use native.Mathlib.Omega.{arith}
use lib.IntN.{ℤ, pos, nat_abs, ◌+ℤ◌, ◌-ℤ◌, ◌*ℤ◌}
use lib.Dec.{T, leb, leb→le}
use lib.ListN.{length, get_or, take, length-take}
use lib.Seq.{get_or-take}
use mir.Syntax.{w32}
use mir.Val.{SFits}
use Rattle.whole.specs.Sums.{Within}
use Rattle.whole.proofs.Size.{abs-add, abs-sub, abs-mul, fits-size}
use Rattle.whole.proofs.Tests.{and_left, and_right}
use Rattle.whole.proofs.Sums.{within_all}
use Rattle.tables.specs.Head.{head8, head16, head32, HeadTable}

module _ (x u : ℤ) (p : nat_abs x ≤ 2 ^ 19) (q : nat_abs u ≤ 128) where
  pub prod-size : nat_abs (x *ℤ u) ≤ 2 ^ 26
  prod-size = N.le_trans (N.le_of_eq (abs-mul x u)) (N.mul-le-mul p q)

  pub prod-fits : {f : ℤ} → f ≡ u → SFits w32 (x *ℤ f)
  prod-fits e = subst (λ (z : ℤ). SFits w32 (x *ℤ z)) (sym e) (fits-size (x *ℤ u) (omega (arith, prod-size)))

  module _ (a : ℤ) (r : nat_abs a ≤ 2 ^ 26) where
    pub sum-size : nat_abs (a +ℤ x *ℤ u) ≤ 2 ^ 27
    sum-size = N.le_trans (abs-add a (x *ℤ u)) (N.add-le-add r prod-size)

    pub sum_fits : {f : ℤ} → f ≡ u → SFits w32 (a +ℤ x *ℤ f)
    sum_fits e = subst (λ (z : ℤ). SFits w32 (a +ℤ x *ℤ z)) (sym e) (fits-size (a +ℤ x *ℤ u) (omega (arith, sum-size)))

module _ {a d x y : ℤ} (e : a ≡ x) (f : d ≡ y) (p : nat_abs x ≤ 2 ^ 27) (q : nat_abs y ≤ 2 ^ 27) where
  pub both-fit : SFits w32 (a +ℤ d)
  both-fit = subst (λ (z : ℤ). SFits w32 z) (sym (ap (λ z. z +ℤ d) e ∙ ap (λ z. x +ℤ z) f)) (fits-size (x +ℤ y) (omega (arith, abs-add x y)))

  pub less-fit : SFits w32 (a -ℤ d)
  less-fit = subst (λ (z : ℤ). SFits w32 z) (sym (ap (λ z. z -ℤ d) e ∙ ap (λ z. x -ℤ z) f)) (fits-size (x -ℤ y) (omega (arith, abs-sub x y)))

pub within-front : (n b : ℕ) (xs : List ℤ) → Within b xs → Within b (take n xs)
within-front n b xs h k l =
    subst (λ (z : ℤ). nat_abs z ≤ b) (sym (get_or-take n xs k (pos 0) (N.lt_of_lt_of_le l (subst (λ (m : ℕ). m ≤ n) (sym (length-take n xs)) (N.min-le_left n (length xs)))))) (within_all b xs h k)

-- ---- the numbers of a head
abbrev small_all : List ℤ → Bool
small_all [] = true
small_all (x ∷ xs) = leb (nat_abs x) 128 && small_all xs

small_at : (t : List ℤ) → T (small_all t) → (j : ℕ) → nat_abs (get_or t j (pos 0)) ≤ 128
small_at [] h j = zero-le
small_at (x ∷ xs) h zero = leb→le (nat_abs x) 128 (and_left (leb (nat_abs x) 128) (small_all xs) h)
small_at (x ∷ xs) h (suc j) = small_at xs (and_right (leb (nat_abs x) 128) (small_all xs) h) j

pub head-small : {h : ℕ} {t : List ℤ} → HeadTable h t → (j : ℕ) → nat_abs (get_or t j (pos 0)) ≤ 128
head-small (inl p) j = subst (λ (t : List ℤ). nat_abs (get_or t j (pos 0)) ≤ 128) (sym p.1) (small_at head8 tt j)
head-small (inr (inl p)) j = subst (λ (t : List ℤ). nat_abs (get_or t j (pos 0)) ≤ 128) (sym p.1) (small_at head16 tt j)
head-small (inr (inr p)) j = subst (λ (t : List ℤ). nat_abs (get_or t j (pos 0)) ≤ 128) (sym p.1) (small_at head32 tt j)
