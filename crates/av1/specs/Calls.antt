-- The inverse DCT as a call on a lent slice of n numbers. Definitions only.
--     low, high bits           the ends of what fits a number of bits
--     number_ok lo hi l k       number k of l lies in lo .. hi
--     permuted from t          the list t in the order of a table
--     ran lo hi .. t           the steps of a table, run on the list t: the answer, and the list that the call leaves
--     front n bits t           the refusals that need no step: 1, 2, 6, and 15 of an input
--     dct_of n bits t           the whole call: its answer, and the list as it leaves it
use Rattle.std.specs.Prelude.{Bool, ◌&&◌, cond, List, ℕ, ◌-◌, eqb, leb, ℤ, length, get_or}
use Rattle.answers.specs.declared.Answer.{Answer}
use Rattle.answers.specs.Answers.{done, refused, unless, searched, ends}
use Rattle.whole.specs.Numbers.{in_range, lowest, highest}
use Rattle.whole.specs.Search.{seek}
use Rattle.whole.specs.Sums.{tab, item}
use Rattle.av1.specs.Steps.{goes}
use Rattle.av1.specs.Tables.{length_ok, angles_of, from_of, ops_of, count_of}

abbrev pub low : ℕ → ℤ
low bits = lowest (bits - 1)

abbrev pub high : ℕ → ℤ
high bits = highest (bits - 1)

abbrev pub number_ok : ℤ → ℤ → List ℤ → ℕ → Bool
number_ok lo hi l k = in_range lo hi (item l k)

abbrev pub permuted : List ℕ → List ℤ → List ℤ
permuted from t = tab (length t) (λ i. item t (get_or from i 0))

abbrev pub settled : List ℤ → Answer × List ℤ → Answer × List ℤ
settled t w = ends w.0 t w.1

abbrev pub ran : ℤ → ℤ → List ℤ → List ℕ → List ℕ → ℕ → List ℤ → Answer × List ℤ
ran lo hi cos from ops count t = settled t (goes lo hi cos ops 0 count (length t) (permuted from t))

unfoldable pub front : ℕ → ℕ → List ℤ → Answer
front n bits t =
    unless (leb 16 bits && leb bits 20) (refused 1 0 0)
    (unless (length_ok n) (refused 2 0 0)
    (unless (eqb (length t) n) (refused 6 1 0)
    (searched 15 0 n (λ k. k) (seek (number_ok (low bits) (high bits) t) 0 n)
    done)))

unfoldable pub ran_of : ℕ → ℕ → List ℤ → Answer × List ℤ
ran_of n bits t = ran (low bits) (high bits) (angles_of n) (from_of n) (ops_of n) (count_of n) t

unfoldable pub dct_of : ℕ → ℕ → List ℤ → Answer × List ℤ
dct_of n bits t = cond (eqb (front n bits t).number 0) (ran_of n bits t) (front n bits t, t)
