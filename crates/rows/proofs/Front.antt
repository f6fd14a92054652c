-- The first n places of a longer list, after a list l was written there: the list is l ++ q. Assumes nothing. Of a list made by a rule:
--     front_long      l has n numbers
--     front-is        the first n places are l
--     front-count     they are n
--     front-inside    there are n places
-- Of a copy of the list xs, of n numbers:
--     copied, copied-count, copied-inside     the first n places are xs; they are n; there are n places
use mathlib.Core.Path.{◌≡◌, sym, ap, ◌∙◌}
use mathlib.Core.List.{List, ◌++◌}
use Prim.Native.Nat.{ℕ, ◌≤◌}
use native.Mathlib.Omega.{arith}
use lib.IntN.{ℤ}
use lib.ListN.{length, take, length-append}
use lib.Seq.{take_at}
use Rattle.whole.specs.Sums.{tab}
use Rattle.whole.proofs.Fill.{length-tab}

module _ (n : ℕ) (f : ℕ → ℤ) {l : List ℤ} (e : l ≡ tab n f) where
  pub front_long : length l ≡ n
  front_long = ap length e ∙ length-tab n f

  module _ (q : List ℤ) where
    pub front-is : take n (l ++ q) ≡ l
    front-is = take_at l q n front_long

    pub front-count : n ≡ length (take n (l ++ q))
    front-count = sym (ap length front-is ∙ front_long)

    pub front-inside : n ≤ length (l ++ q)
    front-inside = simp length-append (omega (arith, front_long))

module _ {xs l : List ℤ} (e : l ≡ xs) (q : List ℤ) where
  pub copied : take (length xs) (l ++ q) ≡ xs
  copied = take_at l q (length xs) (ap length e) ∙ e

  pub copied-count : length xs ≡ length (take (length xs) (l ++ q))
  copied-count = sym (ap length copied)

  pub copied-inside : length xs ≤ length (l ++ q)
  copied-inside = simp length-append (omega (arith, ap length e))
