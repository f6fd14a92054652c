-- The inverse 4x4 WHT as a call on a lent slice of sixteen numbers, row by row. Definitions only; from document 02, section 12.
-- Each number is divided by 4 and rounded down. What follows is document 01's inverse transform: rows, then columns.
-- No value after the inputs can leave the range, so that refusal 15 is about inputs only: crate av1_agree shows it.
--     quarters t            the sixteen numbers, divided
--     wht_verdict bits t     the answer: 1, 6 or 15, or Done
--     wht_of bits t          the whole call: its answer, and the list as it leaves it
use Rattle.std.specs.Prelude.{◌&&◌, List, ℕ, eqb, leb, ℤ, length}
use Rattle.answers.specs.declared.Answer.{Answer}
use Rattle.answers.specs.Answers.{done, refused, unless, searched, ends}
use Rattle.whole.specs.Numbers.{floor_div}
use Rattle.whole.specs.Search.{seek}
use Rattle.whole.specs.Sums.{tab, item}
use Rattle.wht.specs.Wht.{iwht}
use Rattle.av1.specs.Calls.{low, high, number_ok}

abbrev pub quarters : List ℤ → List ℤ
quarters t = tab 16 (λ i. floor_div (item t i) 4)

unfoldable pub wht_verdict : ℕ → List ℤ → Answer
wht_verdict bits t =
    unless (leb 16 bits && leb bits 20) (refused 1 0 0)
    (unless (eqb (length t) 16) (refused 6 1 0)
    (searched 15 0 16 (λ k. k) (seek (number_ok (low bits) (high bits) t) 0 16)
    done))

unfoldable pub wht_of : ℕ → List ℤ → Answer × List ℤ
wht_of bits t = ends (wht_verdict bits t) t (iwht (quarters t))
