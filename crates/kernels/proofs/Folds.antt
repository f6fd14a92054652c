-- The butterfly in place, of dense products: the first h places of out hold the rows A, the list odd the rows B. Assumes nothing.
--     fold-fits     it leaves 32 bits nowhere, by one test of the rows' sizes
--     fold-left     it leaves the dense products of the butterfly's rows
use mathlib.Core.Path.{◌≡◌, refl, sym, ap, ◌∙◌, subst}
use mathlib.Core.Bool.{Bool, true, false, cond}
use mathlib.Core.List.{List}
use Prim.Native.Nat.{ℕ, ◌+◌, ◌-◌, ◌^◌, ◌<◌}
use native.Mathlib.Omega.{arith}
use borrow.Author.Tests.{ltb-true, ltb-false}
use lib.Dec.{T, ltb, leb}
use lib.IntN.{ℤ, pos, ◌+ℤ◌, ◌-ℤ◌, nat_abs}
use lib.ListN.{get_or, take}
use lib.Seq.{get_or-take}
use Rattle.whole.specs.Sums.{tab, size_of, Within, fold_at, fold_row}
use Rattle.whole.specs.Parts.{joined, JoinRoom}
use Rattle.whole.proofs.Tests.{below}
use Rattle.whole.proofs.Fill.{tab-same}
use Rattle.whole.proofs.Butterfly.{Holds}
use Rattle.whole.proofs.Parts.{join-room, join-holds}

-- the even half counts below h only
fold_same : (h : ℕ) (f e g : ℕ → ℤ) → ((k : ℕ) → k < h → f k ≡ e k) → tab (h + h) (fold_at h f g) ≡ tab (h + h) (fold_at h e g)
fold_same h f e g p = tab-same (h + h) (fold_at h f g) (fold_at h e g) (λ k l. at k l (ltb k h) refl)
  where
    at : (k : ℕ) → k < h + h → (b : Bool) → ltb k h ≡ b
        → cond b (f k +ℤ g k) (f (h + h - 1 - k) -ℤ g (h + h - 1 - k)) ≡ cond b (e k +ℤ g k) (e (h + h - 1 - k) -ℤ g (h + h - 1 - k))
    at k l true t = ap (λ z. z +ℤ g k) (p k (ltb-true k h t))
    at k l false t = ap (λ z. z -ℤ g (h + h - 1 - k)) (p (h + h - 1 - k) (omega (arith, ltb-false k h t)))

module _ {h : ℕ} {A B : ℕ → List ℤ} {xs : List ℤ} (out : List ℤ) {odd : List ℤ} (p : Holds h A xs (take h out)) (q : Holds h B xs odd) where
  pub fold-fits : Within (2 ^ 19) xs → T (below (λ k. leb (size_of (A k) + size_of (B k)) 4095) h) → JoinRoom h out odd
  fold-fits w t k l = subst (λ (z : ℤ). nat_abs z + nat_abs (get_or odd k (pos 0)) < 2 ^ 31) (get_or-take h out k (pos 0) l) (join-room p q w t k l)

  pub fold-left : {new : List ℤ} → new ≡ joined h out odd → Holds (h + h) (fold_row h A B) xs new
  fold-left e =
      join-holds p q
      (e ∙ fold_same h (λ k. get_or out k (pos 0)) (λ k. get_or (take h out) k (pos 0)) (λ k. get_or odd k (pos 0)) (λ k l. sym (get_or-take h out k (pos 0) l)))
