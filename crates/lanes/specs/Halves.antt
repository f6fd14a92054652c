-- The odd half of a DCT, and its first quarter. Definitions only.
--     odd_row, odds_of        the weights of output m for the inputs start, 3 start, 5 start, ..: row m of a table of h by h; and the sums of all h outputs
--     half2, half4          the odd halves of the 2- and of the 4-point DCT
--     first_row m            the first input times 64
--     quarter_row d m        the weights of output m of the 4-point DCT of the inputs 0, d, 2d and 3d
--     Quarter d n           d is a quarter of n inputs: 1 of 4, 2 of 8, 4 of 16, 8 of 32
--     OddHalf h t start n   the table is square, the inputs are among n, and no sum, in any order, leaves 32 bits for inputs within 2^19
use Rattle.std.specs.Prelude.{◌≡◌, ◌⊎◌, List, [], ◌∷◌, ℕ, ◌+◌, ◌*◌, ◌<◌, ℤ, pos, neg_ℤ, length, get_or}
use Rattle.whole.specs.Sums.{tab, dot_z, term_row, term_size, mulʳ, unit, fold_row}
use Rattle.whole.specs.Parts.{place_at}

abbrev pub weight : ℕ → List ℤ → ℕ → ℕ → ℤ
weight h t m i = get_or t (m * h + i) (pos 0)

abbrev pub odd_row : ℕ → List ℤ → ℕ → ℕ → List ℤ
odd_row h t start m = term_row (weight h t m) (place_at start (start + start)) h

abbrev pub odds_of : ℕ → List ℤ → ℕ → List ℤ → List ℤ
odds_of h t start xs = tab h (λ m. dot_z (odd_row h t start m) xs)

pub record OddHalf (h : ℕ) (t : List ℤ) (start n : ℕ) : Type 0 where
  pub square : length t ≡ h * h
  pub inside : (i : ℕ) → i < h → place_at start (start + start) i < n
  pub small : (m : ℕ) → m < h → term_size (weight h t m) h < 4096

abbrev pub half2 : List ℤ
half2 = pos 64 ∷ []

abbrev pub half4 : List ℤ
half4 = pos 83 ∷ pos 35 ∷ pos 35 ∷ neg_ℤ (pos 83) ∷ []

abbrev pub first_row : ℕ → List ℤ
first_row m = mulʳ (unit 0) (pos 64)

abbrev pub quarter_row : ℕ → ℕ → List ℤ
quarter_row d = fold_row 2 (fold_row 1 first_row (odd_row 1 half2 (d + d))) (odd_row 2 half4 d)

abbrev pub Quarter : ℕ → ℕ → Type 0
Quarter d n = (((d ≡ 1) × (n ≡ 4)) ⊎ ((d ≡ 2) × (n ≡ 8))) ⊎ (((d ≡ 4) × (n ≡ 16)) ⊎ ((d ≡ 8) × (n ≡ 32)))
