-- A plane whose samples gain numbers, sixteen of them at the indices `at 0` to `at 15`. Definitions only; from document 01, "Chroma pairs and WHT".
-- Nothing here speaks of rows, strides or machine numbers: `at` is any choice of indices, `ok` any test of a sample.
--     add_on f p             every sample i of p gains f i
--     gain at g n           g k at the index at k, for the k below n, and 0 elsewhere
--     gained at g p         the plane p after the sixteen gains
--     samples ok at p g     about the plane, slice 2: refusal 8 at the first sample that is not ok, then 10 at the first that would not be
--     gaining f ok at p g   the whole call: its answer, and the plane as it is left. Where f, the answer by the arguments alone, is Done, the samples decide
--     Lies at n             the sixteen indices lie in a plane of n samples, and no two are the same
use Rattle.std.specs.Prelude.{◌≡◌, Bool, cond, List, [], ◌∷◌, ℕ, zero, suc, ◌<◌, eqb, ℤ, pos, ◌+ℤ◌}
use Rattle.whole.specs.Sums.{item}
use Rattle.answers.specs.declared.Answer.{Answer}
use Rattle.answers.specs.Answers.{done, unless, searched, ends}
use Rattle.whole.specs.Search.{seek}

unfoldable pub add_on : (ℕ → ℤ) → List ℤ → List ℤ
add_on f [] = []
add_on f (x ∷ xs) = (x +ℤ f 0) ∷ add_on (λ i. f (suc i)) xs

unfoldable pub gain : (ℕ → ℕ) → (ℕ → ℤ) → ℕ → ℕ → ℤ
gain at g zero i = pos 0
gain at g (suc k) i = cond (eqb (at k) i) (g k) (gain at g k i)

abbrev pub gained : (ℕ → ℕ) → (ℕ → ℤ) → List ℤ → List ℤ
gained at g p = add_on (gain at g 16) p

abbrev pub present_ok : (ℤ → Bool) → (ℕ → ℕ) → List ℤ → ℕ → Bool
present_ok ok at p k = ok (item p (at k))

abbrev pub later_ok : (ℤ → Bool) → (ℕ → ℕ) → List ℤ → (ℕ → ℤ) → ℕ → Bool
later_ok ok at p g k = ok (item p (at k) +ℤ g k)

abbrev pub leaves : (ℤ → Bool) → (ℕ → ℕ) → List ℤ → (ℕ → ℤ) → Answer
leaves ok at p g = searched 10 2 16 at (seek (later_ok ok at p g) 0 16) done

abbrev pub samples : (ℤ → Bool) → (ℕ → ℕ) → List ℤ → (ℕ → ℤ) → Answer
samples ok at p g = searched 8 2 16 at (seek (present_ok ok at p) 0 16) (leaves ok at p g)

unfoldable pub judged : Answer → (ℤ → Bool) → (ℕ → ℕ) → List ℤ → (ℕ → ℤ) → Answer
judged f ok at p g = unless (eqb f.number 0) f (samples ok at p g)

unfoldable pub gaining : Answer → (ℤ → Bool) → (ℕ → ℕ) → List ℤ → (ℕ → ℤ) → Answer × List ℤ
gaining f ok at p g = ends (judged f ok at p g) p (gained at g p)

pub record Lies (at : ℕ → ℕ) (n : ℕ) : Type 0 where
  pub inside : (k : ℕ) → k < 16 → at k < n
  pub apart : (j k : ℕ) → j < 16 → k < 16 → at j ≡ at k → j ≡ k
