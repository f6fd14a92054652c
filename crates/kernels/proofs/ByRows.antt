-- Tables by rows, of a known length. Assumes nothing.
--     rows_ok        one test of a table: its length, and that no sum of a row, in any order, leaves 32 bits for inputs within 2^19
--     rows_are      what a product by rows asks, from that test
--     rows_long     a dense product is as long as its inputs
--     turned_rows   a dense product, turned where a flag says so
--     dst-asks      what `inv_dst` asks
--     dst-left      what `inv_dst` leaves
use mathlib.Core.Path.{◌≡◌, refl, sym, ap, ◌∙◌}
use mathlib.Core.Bool.{Bool, true, false, ◌&&◌}
use mathlib.Core.List.{List}
use Prim.Native.Nat.{ℕ, ◌*◌, ◌^◌, ◌≤◌, ◌<◌}
use native.Mathlib.Omega.{arith}
use lib.Dec.{T, eqb, eqb→eq, ltb, ltb→lt}
use lib.IntN.{ℤ, pos}
use lib.ListN.{length, get_or}
use Rattle.whole.specs.Sums.{tab, dot_z, row_at, dense, flipped}
use Rattle.whole.proofs.Tests.{and_left, and_right}
use Rattle.whole.proofs.Fill.{length-tab, tab-at, tab-same}
use Rattle.whole.proofs.Tables.{row_size, rows_fit}
use Rattle.tables.specs.Dense.{dense_by}
use Rattle.rows.specs.Rows.{Rows}
use Rattle.kernels.specs.Inputs.{Inputs}

abbrev pub rows_ok : ℕ → List ℤ → Bool
rows_ok n t = eqb (length t) (n * n) && ltb (row_size n t * 2 ^ 19) (2 ^ 31)

module _ (n : ℕ) (t : List ℤ) (ok : T (rows_ok n t)) (xs : List ℤ) (inputs : Inputs n xs) where
  pub rows_are : Rows t xs
  rows_are =
      record {
        square = eqb→eq _ _ (and_left (eqb (length t) (n * n)) (ltb (row_size n t * 2 ^ 19) (2 ^ 31)) ok) ∙ ap (λ m. m * m) (sym inputs.0);
        small = rows_fit n (2 ^ 19) t xs inputs.0 inputs.1 (ltb→lt _ _ (and_right (eqb (length t) (n * n)) (ltb (row_size n t * 2 ^ 19) (2 ^ 31)) ok));
      }

  pub dst-asks : n ≤ 16 → (length xs ≤ 16) × Rows t xs
  dst-asks l = (omega (arith, inputs.0), rows_are)

module _ (t xs : List ℤ) {l : List ℤ} (e : l ≡ dense (length xs) t xs) where
  pub rows_long : length l ≡ length xs
  rows_long = ap length e ∙ length-tab (length xs) (λ i. dot_z (row_at (length xs) t i) xs)

pub turned_rows : (flip : Bool) (t xs : List ℤ) {l : List ℤ} → l ≡ dense (length xs) t xs
    → tab (length l) (λ k. get_or l (flipped flip (length l) k) (pos 0)) ≡ dense_by flip (length xs) t xs
turned_rows flip t xs {l} e =
    ap (λ m. tab (length m) (λ k. get_or m (flipped flip (length m) k) (pos 0))) e
    ∙ ap (λ n. tab n (λ k. get_or (dense (length xs) t xs) (flipped flip n k) (pos 0))) (rows_long t xs {l = dense (length xs) t xs} refl)
    ∙ tab-same (length xs) (λ k. get_or (dense (length xs) t xs) (flipped flip (length xs) k) (pos 0)) (λ k. row (flipped flip (length xs) k))
    (λ k h. tab-at (pos 0) (length xs) row (flipped flip (length xs) k) (inside flip k h))
  where
    row : ℕ → ℤ
    row i = dot_z (row_at (length xs) t i) xs

    inside : (f : Bool) (k : ℕ) → k < length xs → flipped f (length xs) k < length xs
    inside true k h = omega arith
    inside false k h = h

pub dst-left : (flip : Bool) (n : ℕ) (t xs : List ℤ) {out : List ℤ} → Inputs n xs → out ≡ dense_by flip (length xs) t xs → out ≡ dense_by flip n t xs
dst-left flip n t xs inputs e = e ∙ ap (λ m. dense_by flip m t xs) inputs.0
