-- A loop that puts 0 in the place of every number from live on. Assumes nothing.
--     Clearing                                   at i the places live .. i - 1 hold 0, every other place what it held
--     clear-start, clear-more, clear-done        before the first turn, a turn, the end
use mathlib.Core.Path.{◌≡◌, refl, ap, ◌∙◌}
use mathlib.Core.List.{List}
use Prim.Native.Nat.{ℕ, ◌+◌, ◌≤◌, ◌<◌}
use native.Mathlib.Nat as N
use native.Mathlib.Decide.{ℕ_discrete}
use native.Mathlib.Omega.{arith}
use lib.Arith.{lt_of_le-ne}
use lib.IntN.{ℤ, pos}
use lib.ListN.{length, get_or, set, length-set}
use lib.Seq.{get_or-set_same, get_or-set_other}
use Rattle.tables.specs.Dense.{first_of}
use Rattle.tables.proofs.First.{first-is}

pub record Clearing (live : ℕ) (old l : List ℤ) (i : ℕ) : Type 0 where
  pub least : live ≤ i
  pub long : length l ≡ length old
  pub low : (k : ℕ) → k < live → get_or l k (pos 0) ≡ get_or old k (pos 0)
  pub gone : (k : ℕ) → live ≤ k → k < i → get_or l k (pos 0) ≡ pos 0

module _ {live : ℕ} {old : List ℤ} where
  pub clear-start : Clearing live old old live
  clear-start = record { least = N.le_refl live; long = refl; low = λ k h. refl; gone = λ k h l. absurd (N.not-le_of_lt l h) }

  pub clear-more : {l : List ℤ} {i : ℕ} → Clearing live old l i → i < length l → Clearing live old (set l i (pos 0)) (i + 1)
  clear-more {l} {i} p h = record {
    least = omega (arith, p.least);
    long = length-set l i (pos 0) ∙ p.long;
    low = λ k q. get_or-set_other l i k (pos 0) (pos 0) (λ e. absurd (omega (arith, p.least))) ∙ p.low k q;
    gone = λ k q r. go k q r (ℕ_discrete k i);
  }
    where
      go : (k : ℕ) → live ≤ k → k < i + 1 → Dec (k ≡ i) → get_or (set l i (pos 0)) k (pos 0) ≡ pos 0
      go k q r (yes e) = ap (λ j. get_or (set l i (pos 0)) j (pos 0)) e ∙ get_or-set_same l i (pos 0) (pos 0) h
      go k q r (no e) = get_or-set_other l i k (pos 0) (pos 0) e ∙ p.gone k q (lt_of_le-ne (omega arith) e)

  pub clear-done : {l : List ℤ} {i : ℕ} → Clearing live old l i → length old ≤ i → l ≡ first_of live old
  clear-done {l} {i} p h = first-is live old l p.long p.low (λ k q r. p.gone k q (N.lt_of_lt_of_le r h))
