-- A number as decimal digits, each by its code. Definitions only.
--     digit_code d           the code of a digit below 16: 0 to 9, then a to f
--     last_digits b k n      the last k digits of n in base b, the first one first
--     IsDigitCount b w n k    n has k digits in base b, where it is written with at least w
use Rattle.std.specs.Prelude.{ℕ, zero, suc, ◌+◌, ◌-◌, ◌/◌, ◌%◌, ◌^◌, ◌<◌, ◌≤◌, cond, List, [], ◌∷◌, ◌++◌, nat_lt}

abbrev pub digit_code : ℕ → ℕ
digit_code d = cond (nat_lt d 10) (48 + d) (87 + d)

abbrev pub last_digits : ℕ → ℕ → ℕ → List ℕ
last_digits b zero n = []
last_digits b (suc k) n = last_digits b k (n / b) ++ (digit_code (n % b) ∷ [])

abbrev pub IsDigitCount : ℕ → ℕ → ℕ → ℕ → Type 0
IsDigitCount b width n k = (width ≤ k) × (n < b ^ k) × (width < k → b ^ (k - 1) ≤ n)
