-- N numbers that a loop computes one after the other. Assumes nothing.
--     Numbered, number-more          after i turns the first i are f's
--     numbered-all                   after all turns every lane has f's number, if f is 0 past the last
--     past-last                      past a record's last number there is 0
use mathlib.Core.Path.{◌≡◌, sym, ◌∙◌, subst}
use mathlib.Core.Logic.{◌⊎◌, inl, inr}
use mathlib.Core.List.{List}
use Prim.Native.Nat.{ℕ, ◌+◌, ◌≤◌, ◌<◌}
use native.Mathlib.Nat as N
use lib.IntN.{ℤ, pos}
use lib.ListN.{length, get_or, set, length-set}
use Rattle.whole.proofs.Cells.{under}
use Rattle.whole.proofs.Fill.{Filled, filled_more}
use Rattle.tables.proofs.First.{past}

pub past-last : {n k : ℕ} (r : List ℤ) → length r ≡ n → n ≤ k → get_or r k (pos 0) ≡ pos 0
past-last {n} {k} r e h = past r k (subst (λ (m : ℕ). m ≤ k) (sym e) h)

pub record Numbered (n : ℕ) (f : ℕ → ℤ) (r : List ℤ) (i : ℕ) : Type 0 where
  pub long : length r ≡ n
  pub holds : Filled (pos 0) i f r

module _ {n : ℕ} {f : ℕ → ℤ} {r : List ℤ} {i : ℕ} (p : Numbered n f r i) where
  pub number-more : {v : ℤ} → i < n → v ≡ f i → Numbered n f (set r i v) (i + 1)
  number-more {v} h e = record {
    long = length-set r i v ∙ p.long;
    holds = filled_more (pos 0) r i v f (subst (λ (m : ℕ). i < m) (sym p.long) h) e p.holds;
  }

  pub numbered-all : n ≤ i → ((k : ℕ) → n ≤ k → f k ≡ pos 0) → (k : ℕ) → get_or r k (pos 0) ≡ f k
  numbered-all h z k = go (under n k)
    where
      go : ((n ≤ k) ⊎ (k < n)) → get_or r k (pos 0) ≡ f k
      go (inl q) = past-last r p.long q ∙ sym (z k q)
      go (inr q) = p.holds k (N.lt_of_lt_of_le q h)
