-- The remaining steps of a history, as lent memory holds them. Definitions only; from document 02, section 9.
-- Memory that is all zero is the empty history.
--     steps, 16,385 numbers: the count, then for each step its number, depth, row and column, the oldest first
--     levels, 65,536 numbers: for each step its sixteen
--     number_at s i          the number of step i, counted from the oldest, 0
--     mark_at s i            number, depth, row and column of step i, counted from the oldest, 0
--     marks s n             those of the first n steps, THE NEWEST FIRST
--     entries s l n         the same with their levels
--     last p n              the last i below n at which the test p holds, counted from 1; 0 where there is none
--     counted r              what a search answers, by that count
--     number_before s i      the number of step i - 1; 0 where i is 0
--     put_mark, added_to      the four numbers of a step written, and one more step at the end
use Rattle.std.specs.Prelude.{Bool, cond, Option, Some, None, List, [], ◌∷◌, ◌++◌, ℕ, zero, suc, ◌+◌, ◌*◌, eqb, ℤ, get_or, take, drop, set}

pub record Mark : Type 0 where
  pub number : ℕ
  pub depth : ℕ
  pub row : ℕ
  pub column : ℕ

pub record Entry : Type 0 where
  pub mark : Mark
  pub levels : List ℤ

abbrev pub mark : ℕ → ℕ → ℕ → ℕ → Mark
mark q d r c = record { number = q; depth = d; row = r; column = c }

-- ---- reading
abbrev pub count : List ℕ → ℕ
count s = get_or s 0 0

abbrev pub number_at : List ℕ → ℕ → ℕ
number_at s i = get_or s (4 * i + 1) 0

-- number j of the four of step i
abbrev pub word : List ℕ → ℕ → ℕ → ℕ
word s i j = get_or s (4 * i + 1 + j) 0

abbrev pub mark_at : List ℕ → ℕ → Mark
mark_at s i = mark (number_at s i) (word s i 1) (word s i 2) (word s i 3)

abbrev pub levels_at : List ℤ → ℕ → List ℤ
levels_at l i = take 16 (drop (16 * i) l)

abbrev pub entry_at : List ℕ → List ℤ → ℕ → Entry
entry_at s l i = record { mark = mark_at s i; levels = levels_at l i }

abbrev pub marks : List ℕ → ℕ → List Mark
marks s zero = []
marks s (suc n) = mark_at s n ∷ marks s n

abbrev pub entries : List ℕ → List ℤ → ℕ → List Entry
entries s l zero = []
entries s l (suc n) = entry_at s l n ∷ entries s l n

-- ---- searching
unfoldable pub last : (ℕ → Bool) → ℕ → ℕ
last p zero = 0
last p (suc n) = cond (p n) (suc n) (last p n)

abbrev pub counted : Option ℕ → ℕ
counted None = 0
counted (Some i) = suc i

abbrev pub number_before : List ℕ → ℕ → ℕ
number_before s zero = 0
number_before s (suc i) = number_at s i

-- the step with the number q, counted from 1; 0 where none of the n has it
abbrev pub found : List ℕ → ℕ → ℕ → ℕ
found s q n = last (λ i. eqb (number_at s i) q) n

-- ---- writing
-- the four numbers of step i
abbrev pub put_mark : ℕ → Mark → List ℕ → List ℕ
put_mark i m s = set (set (set (set s (4 * i + 1) m.number) (4 * i + 1 + 1) m.depth) (4 * i + 1 + 2) m.row) (4 * i + 1 + 3) m.column

-- from place a on the numbers new
abbrev pub put_on : {A : Type 0} → ℕ → List A → ℕ → List A → List A
put_on a new n l = take a l ++ (new ++ drop (a + n) l)

-- one more step at the end, with the next number
abbrev pub added_to : ℕ → ℕ → ℕ → List ℕ → List ℕ
added_to d r c s = set (put_mark (count s) (mark (number_before s (count s) + 1) d r c) s) 0 (count s + 1)
