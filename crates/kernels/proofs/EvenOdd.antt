-- The DCT of 2n numbers xs from that of the even ones and the products of the odd ones, as `inv_dct_combine`, `flat8`, `flat16` and `flat32`
-- go. Assumes nothing.
--     Halving                 what the table of the odd half must pass, by computed tests; halving8, halving16, halving32: the tables do
--     odd-table, odd-sizes    the tables of the recursive pair, and what their length tells
--     Halved, halved          the odd inputs stand in the list odd, the even ones at the front of the list ev
--     odd-rows                what the products of the odd inputs ask
--     even-inputs, even-asks  what the DCT of the even inputs asks; in the recursive pair
--     join-asks, join-left    what `join` asks and leaves, once that DCT, lo, was written over the even inputs
--     fold_asks, fold-gives   what `fold` asks and leaves, of the products of the odd inputs
use mathlib.Core.Path.{◌≡◌, refl, sym, ap, ◌∙◌, subst}
use mathlib.Core.Logic.{inl, inr}
use mathlib.Core.List.{List, ◌++◌}
use Prim.Native.Nat.{ℕ, ◌+◌, ◌^◌, ◌≤◌, ◌<◌}
use native.Mathlib.Omega.{arith}
use lib.Dec.{T, leb, lit<, lit≤}
use lib.IntN.{ℤ, pos}
use lib.ListN.{length, get_or, take, drop, replicate}
use lib.Seq.{length-take-le, length_front, take_at}
use Rattle.whole.specs.Sums.{tab, dot_z, dense, col_at, row_at, scatter, size_of, Within, fold_row}
use Rattle.whole.specs.Parts.{joined, JoinRoom}
use Rattle.whole.proofs.Tests.{below}
use Rattle.whole.proofs.Fill.{length-tab}
use Rattle.whole.proofs.Butterfly.{Holds, gather-holds, gather-within}
use Rattle.rows.specs.Rows.{Rows}
use Rattle.rows.proofs.Front.{front-is}
use Rattle.tables.specs.Half.{half8, half16, half32}
use Rattle.tables.specs.Dense.{dct_table}
use Rattle.kernels.specs.Inputs.{Inputs}
use Rattle.kernels.specs.Dct.{dct_of, Recursed, OddTable}
use Rattle.kernels.proofs.ByRows.{rows_ok, rows_are}
use Rattle.kernels.proofs.Folds.{fold-fits, fold-left}

abbrev even_of : List ℤ → ℕ → ℤ
even_of xs i = get_or xs (i + i) (pos 0)

abbrev odd_of : List ℤ → ℕ → ℤ
odd_of xs i = get_or xs (i + i + 1) (pos 0)

-- the rows over all inputs
abbrev row_e : ℕ → ℕ → List ℤ
row_e n m = scatter (col_at n (dct_table n) m) (λ i. i + i)

abbrev row_o : ℕ → List ℤ → ℕ → List ℤ
row_o n mat i = scatter (row_at n mat i) (λ i. i + i + 1)

-- ---- the tables of the odd halves
pub record Halving (n : ℕ) (mat : List ℤ) : Type 0 where
  pub some : 0 < n
  pub most : n ≤ 16
  pub light : T (rows_ok n mat)
  pub even-long : T (below (λ m. leb (length (col_at n (dct_table n) m)) n) n)
  pub odd-long : T (below (λ i. leb (length (row_at n mat i)) n) n)
  pub sizes : T (below (λ j. leb (size_of (row_e n j) + size_of (row_o n mat j)) 4095) n)
  pub last : (xs out : List ℤ) → Holds (n + n) (fold_row n (row_e n) (row_o n mat)) xs out → out ≡ dct_of (n + n) xs

pub halving8 : Halving 4 half8
halving8 = record { some = lit< tt; most = lit≤ tt; light = tt; even-long = tt; odd-long = tt; sizes = tt; last = λ xs out h. h.is }

pub halving16 : Halving 8 half16
halving16 = record { some = lit< tt; most = lit≤ tt; light = tt; even-long = tt; odd-long = tt; sizes = tt; last = λ xs out h. h.is }

pub halving32 : Halving 16 half32
halving32 = record { some = lit< tt; most = lit≤ tt; light = tt; even-long = tt; odd-long = tt; sizes = tt; last = λ xs out h. h.is }

-- those of the recursive pair
by-table : {n : ℕ} {t : List ℤ} → OddTable n t → (P : ℕ → List ℤ → Type 0) → P 4 half8 → P 8 half16 → P n t
by-table {n} {t} (inl e) P a b = subst (λ (m : ℕ). P m t) (sym e.0) (subst (P 4) (sym e.1) a)
by-table {n} {t} (inr e) P a b = subst (λ (m : ℕ). P m t) (sym e.0) (subst (P 8) (sym e.1) b)

pub odd-table : {n : ℕ} {mat : List ℤ} → OddTable n mat → Halving n mat
odd-table t = by-table t Halving halving8 halving16

pub odd-sizes : {n : ℕ} {mat : List ℤ} → OddTable n mat → (n ≤ 8) × Recursed n
odd-sizes t = by-table t (λ n mat. (n ≤ 8) × Recursed n) (lit≤ tt, inl refl) (lit≤ tt, inr (inl refl))

-- ---- the inputs, taken apart
pub record Halved (n : ℕ) (mat xs odd ev : List ℤ) : Type 0 where
  pub table : Halving n mat
  pub inputs : Inputs (n + n) xs
  pub long : length ev ≡ n + n
  pub odds : odd ≡ tab n (odd_of xs)
  pub evens : take n ev ≡ tab n (even_of xs)

-- the array that takes the odd inputs
abbrev zeros : List ℤ
zeros = replicate 16 (pos 0)

pub room : (n : ℕ) {mat : List ℤ} → OddTable n mat → length (take n zeros) ≡ n
room n t = length-take-le n zeros (omega (arith, (odd-sizes t).0))

pub halved : {n : ℕ} {mat xs odd ev : List ℤ} → OddTable n mat → Inputs (n + n) xs → length ev ≡ length xs → odd ≡ tab (length (take n zeros)) (odd_of xs) → take n ev ≡ tab n (even_of xs) → Halved n mat xs odd ev
halved {n} {mat} {xs} t i l o e = record { table = odd-table t; inputs = i; long = l ∙ i.0; odds = o ∙ ap (λ m. tab m (odd_of xs)) (room n t); evens = e }

module _ {n : ℕ} {mat xs odd ev : List ℤ} (h : Halved n mat xs odd ev) where
  pub front : n ≤ length ev
  front = omega (arith, h.long)

  pub even-count : length (take n ev) ≡ n
  even-count = length-take-le n ev front

  pub odd-count : length odd ≡ n
  odd-count = ap length h.odds ∙ length-tab n (odd_of xs)

  pub even-inputs : Inputs n (take n ev)
  even-inputs = (even-count, subst (Within (2 ^ 19)) (sym h.evens) (gather-within (2 ^ 19) n (λ i. i + i) xs h.inputs.1))

  -- in the recursive pair the length falls
  pub even-asks : {t : ℕ} → OddTable n mat → length xs + n ≡ t → (length (take n ev) + length (take n ev) < t) × (Recursed (length (take n ev)) × Within (2 ^ 19) (take n ev))
  even-asks o e = (omega (arith, even-count, h.inputs.0, h.table.some), (subst Recursed (sym even-count) (odd-sizes o).1, even-inputs.1))

-- ---- the butterfly
pub record Joinable (n : ℕ) (mat xs odd out : List ℤ) : Type 0 where
  pub rows : Rows mat odd
  pub room : JoinRoom (length odd) out (dense (length odd) mat odd)
  pub done : (new : List ℤ) → new ≡ joined (length odd) out (dense (length odd) mat odd) → new ≡ dct_of (n + n) xs

module _ {n : ℕ} {mat : List ℤ} (t : Halving n mat) (xs odd : List ℤ) (w : Within (2 ^ 19) xs) (o : odd ≡ tab n (odd_of xs)) where
  count : length odd ≡ n
  count = ap length o ∙ length-tab n (odd_of xs)

  pub odd-rows : Rows mat odd
  odd-rows = rows_are n mat t.light odd (count, subst (Within (2 ^ 19)) (sym o) (gather-within (2 ^ 19) n (λ i. i + i + 1) xs w))

  joins : (out : List ℤ) → take n out ≡ dct_of n (tab n (even_of xs)) → Joinable n mat xs odd out
  joins out e =
      let hl : Holds n (row_e n) xs (take n out) = gather-holds n n {A = col_at n (dct_table n)} (λ i. i + i) refl t.even-long (record { is = e }) in
      let ho : Holds n (row_o n mat) xs (dense (length odd) mat odd) = gather-holds n n {A = row_at n mat} (λ i. i + i + 1) o t.odd-long (record { is = ap (λ m. dense m mat odd) count }) in
      record {
        rows = odd-rows;
        room = subst (λ (m : ℕ). JoinRoom m out (dense (length odd) mat odd)) (sym count) (fold-fits out hl ho w t.sizes);
        done = λ new q. t.last xs new (fold-left out hl ho (q ∙ ap (λ m. joined m out (dense (length odd) mat odd)) count));
      }

module _ {n : ℕ} {mat xs odd ev lo : List ℤ} (h : Halved n mat xs odd ev) (e : lo ≡ dct_of (length (take n ev)) (take n ev)) where
  low : lo ≡ dct_of n (tab n (even_of xs))
  low = e ∙ ap (λ m. dct_of m (take n ev)) (even-count h) ∙ ap (dct_of n) h.evens

  low_count : length lo ≡ n
  low_count = ap length low ∙ length-tab n (λ m. dot_z (col_at n (dct_table n) m) (tab n (even_of xs)))

  joinable : Joinable n mat xs odd (lo ++ drop n ev)
  joinable = joins h.table xs odd h.inputs.1 h.odds (lo ++ drop n ev) (take_at lo (drop n ev) n low_count ∙ low)

  whole : length (lo ++ drop n ev) ≡ length odd + length odd
  whole = length_front ev lo n (low_count ∙ sym (even-count h)) ∙ h.long ∙ ap (λ m. m + m) (sym (odd-count h))

  -- of the first places of the array that holds the odd inputs
  module _ (q : List ℤ) where
    pub join-asks :
        let odds = take n (odd ++ q) in ((length odds ≤ 16) × (length (lo ++ drop n ev) ≡ length odds + length odds) × Rows mat odds) × JoinRoom (length odds) (lo ++ drop n ev) (dense (length odds) mat odds)
    join-asks =
        subst (λ (odds : List ℤ). ((length odds ≤ 16) × (length (lo ++ drop n ev) ≡ length odds + length odds) × Rows mat odds) × JoinRoom (length odds) (lo ++ drop n ev) (dense (length odds) mat odds))
        (sym (front-is n (odd_of xs) h.odds q)) (
          (omega (arith, odd-count h, h.table.most), whole, joinable.rows),
          joinable.room,
        )

    pub join-left : {new : List ℤ} → new ≡ joined (length (take n (odd ++ q))) (lo ++ drop n ev) (dense (length (take n (odd ++ q))) mat (take n (odd ++ q))) → new ≡ dct_of (n + n) xs
    join-left {new} e = joinable.done new (e ∙ ap (λ l. joined (length l) (lo ++ drop n ev) (dense (length l) mat l)) (front-is n (odd_of xs) h.odds q))

module _ {n : ℕ} {mat xs odd ev lo sums : List ℤ} (h : Halved n mat xs odd ev) (e : lo ≡ dct_of n (take n ev)) (are : sums ≡ dense (length odd) mat odd) where
  half : lo ≡ dct_of (length (take n ev)) (take n ev)
  half = e ∙ ap (λ m. dct_of m (take n ev)) (sym (even-count h))

  long : length sums ≡ length odd
  long = ap length are ∙ length-tab (length odd) (λ i. dot_z (row_at (length odd) mat i) odd)

  pub fold_asks : (length (lo ++ drop n ev) ≡ length sums + length sums) × JoinRoom (length sums) (lo ++ drop n ev) sums
  fold_asks = (
    whole h half ∙ ap (λ m. m + m) (sym long),
    subst (λ (m : ℕ). JoinRoom m (lo ++ drop n ev) sums) (sym long) (subst (JoinRoom (length odd) (lo ++ drop n ev)) (sym are) (joinable h half).room),
  )

  pub fold-gives : {new : List ℤ} → new ≡ joined (length sums) (lo ++ drop n ev) sums → new ≡ dct_of (n + n) xs
  fold-gives {new} q = (joinable h half).done new (q ∙ ap (λ m. joined m (lo ++ drop n ev) sums) long ∙ ap (joined (length odd) (lo ++ drop n ev)) are)
