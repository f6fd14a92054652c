-- Numbers that move down by n. Assumes nothing.
--     slid-is     the list after a copy within it, from a + n .. e + n to a
use mathlib.Core.Path.{◌≡◌, refl, ap, ◌∙◌}
use mathlib.Core.Bool.{Bool, true, false, ◌&&◌, cond}
use mathlib.Core.List.{List}
use Prim.Native.Nat.{ℕ, ◌+◌, ◌≤◌}
use native.Mathlib.Omega.{arith}
use borrow.Author.Tests.{leb-true, leb-false, ltb-true, ltb-false}
use lib.Dec.{leb, ltb}
use lib.ListN.{length, get_or}
use Rattle.std.specs.List.{CopiedTo, SameBelow, SameFrom}
use Rattle.whole.proofs.Fill.{filled-all}
use Rattle.remain.specs.Without.{slid}

module _ {A : Type 0} (z : A) (a e n m : ℕ) (old l : List A) (o : a ≤ e) (is : a + m ≡ e) (long : length l ≡ length old) where
  pub slid-is : CopiedTo old l (a + n) a m → SameBelow old l a → SameFrom old l (a + m) → l ≡ slid z a e n old
  unfolding slid
  slid-is moved before after = filled-all z l (length old) (λ k. cond (leb a k && ltb k e) (get_or old (k + n) z) (get_or old k z)) long (λ k q. by-low k (leb a k) refl)
    where
      by_high : (k : ℕ) → a ≤ k → (b : Bool) → ltb k e ≡ b → get_or l k z ≡ cond b (get_or old (k + n) z) (get_or old k z)
      by_high k x true w = let y = ltb-true k e w in moved k z x (omega arith) ∙ ap (λ i. get_or old i z) (omega arith)
      by_high k x false w = let y = ltb-false k e w in after k z (omega arith)

      by-low : (k : ℕ) (b : Bool) → leb a k ≡ b → get_or l k z ≡ cond (b && ltb k e) (get_or old (k + n) z) (get_or old k z)
      by-low k true w = by_high k (leb-true a k w) (ltb k e) refl
      by-low k false w = before k z (leb-false a k w)
