-- The loops that fill two rows of sixteen. Assumes nothing.
--     Under, low-more                   a bound on the numbers so far
--     Pairing, pair-more, pair-done     at l, the first l places hold the sums and the differences of f and o
use mathlib.Core.Path.{◌≡◌, sym, subst}
use mathlib.Core.List.{List}
use Prim.Native.Nat.{ℕ, ◌+◌, ◌^◌, ◌≤◌, ◌<◌}
use native.Mathlib.Nat as N
use native.Mathlib.Decide.{ℕ_discrete}
use native.Mathlib.Omega.{arith}
use lib.Arith.{lt_of_le-ne}
use lib.IntN.{ℤ, pos, nat_abs, ◌+ℤ◌, ◌-ℤ◌}
use lib.ListN.{set}
use Rattle.whole.proofs.Fill.{Filling, fill_more, fill_done}
use Rattle.wide_rows.specs.Lines.{Both}

-- the numbers below l are within b
abbrev pub Under : ℕ → (ℕ → ℤ) → ℕ → Type 0
Under b f l = (k : ℕ) → k < l → nat_abs (f k) ≤ b

pub low-more : (b : ℕ) (f : ℕ → ℤ) (l : ℕ) → Under b f l → nat_abs (f l) ≤ b → Under b f (l + 1)
low-more b f l p h k q = go (ℕ_discrete k l)
  where
    go : Dec (k ≡ l) → nat_abs (f k) ≤ b
    go (yes e) = subst (λ (j : ℕ). nat_abs (f j) ≤ b) (sym e) h
    go (no e) = p k (lt_of_le-ne (omega arith) e)

pub record Pairing (f o : ℕ → ℤ) (lo hi : List ℤ) (l : ℕ) : Type 0 where
  pub sums : Filling (pos 0) 16 (λ k. f k +ℤ o k) lo l
  pub differences : Filling (pos 0) 16 (λ k. f k -ℤ o k) hi l
  pub small : Under (2 ^ 26) o l

module _ {f o : ℕ → ℤ} where
  pub pair-more : {lo hi : List ℤ} {l : ℕ} {v u : ℤ} → Pairing f o lo hi l → l < 16 → nat_abs (o l) ≤ 2 ^ 26 → v ≡ f l +ℤ o l → u ≡ f l -ℤ o l → Pairing f o (set lo l v) (set hi l u) (l + 1)
  pair-more {l = l} p h b e d = record { sums = fill_more p.sums h e; differences = fill_more p.differences h d; small = low-more (2 ^ 26) o l p.small b }

  pub pair-done : {lo hi : List ℤ} {l : ℕ} → Pairing f o lo hi l → 16 ≤ l → Both f o lo hi
  pair-done p h = (fill_done p.sums h, fill_done p.differences h, λ k q. p.small k (N.lt_of_lt_of_le q h))
