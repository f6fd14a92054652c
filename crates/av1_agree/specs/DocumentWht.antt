-- The inverse 4x4 WHT by the document's own steps. Definitions only.
--     assigned p q r s       the one-dimensional transform: a is p, c is q, d is r, b is s, and then one assignment after another
--     Line at by shift       the four numbers at at, at + by, .., each divided by 2^shift and rounded down
--     rows_then_columns        the four rows with shift 2, then the four columns with shift 0
--     wht_by_document bits t   the whole call: all that is stored is listed, the inputs first, and the first that does not fit is the place
use Rattle.std.specs.Prelude.{◌&&◌, cond, List, [], ◌∷◌, ◌++◌, ℕ, ◌+◌, ◌*◌, ◌-◌, ◌^◌, eqb, leb, ℤ, pos, ◌+ℤ◌, ◌-ℤ◌, length, get_or, set}
use Rattle.answers.specs.declared.Answer.{Answer}
use Rattle.answers.specs.Answers.{refused, ends}
use Rattle.whole.specs.Numbers.{floor_div, lowest, highest}
use Rattle.whole.specs.Sums.{tab}
use Rattle.av1_agree.specs.Document.{first_out}

-- a = a - b; d = d + c; the results a, b, c, d
abbrev then₃ : ℤ → ℤ → ℤ → ℤ → List ℤ
then₃ a b c d = (a -ℤ b) ∷ b ∷ c ∷ (d +ℤ c) ∷ []

-- b = e - b; c = e - c
abbrev then₂ : ℤ → ℤ → ℤ → ℤ → ℤ → List ℤ
then₂ e a b c d = then₃ a (e -ℤ b) (e -ℤ c) d

-- e = (a - d) / 2, rounded down
abbrev then₁ : ℤ → ℤ → ℤ → ℤ → List ℤ
then₁ a b c d = then₂ (floor_div (a -ℤ d) 2) a b c d

-- a = a + c; d = d - b
abbrev pub assigned : ℤ → ℤ → ℤ → ℤ → List ℤ
assigned p q r s = then₁ (p +ℤ q) s q (r -ℤ s)

pub data Line : Type 0 where
  line : ℕ → ℕ → ℕ → Line

abbrev pub rows_then_columns : List Line
rows_then_columns = tab 4 (λ i. line (i * 4) 1 2) ++ tab 4 (λ j. line j 4 0)

abbrev read : List ℤ → ℕ → ℕ → ℤ
read t shift i = floor_div (get_or t i (pos 0)) (2 ^ shift)

unfoldable pub result : List ℤ → Line → List ℤ
result t (line at by shift) = assigned (read t shift at) (read t shift (at + by)) (read t shift (at + by + by)) (read t shift (at + by + by + by))

abbrev pub stored : List ℤ → ℕ → ℕ → List ℤ → List ℤ
stored t at by [] = t
stored t at by (v ∷ vs) = stored (set t at v) (at + by) by vs

unfoldable pub after_line : List ℤ → Line → List ℤ
after_line t (line at by shift) = stored t at by (result t (line at by shift))

unfoldable pub wht_runs : List Line → List ℤ → List ℤ
wht_runs [] t = t
wht_runs (l ∷ ls) t = wht_runs ls (after_line t l)

unfoldable pub wht_log : List Line → List ℤ → List ℤ
wht_log [] t = []
wht_log (l ∷ ls) t = result t l ++ wht_log ls (after_line t l)

unfoldable pub wht_by_document : ℕ → List ℤ → Answer × List ℤ
wht_by_document bits t =
    cond (leb 16 bits && leb bits 20)
    (cond (eqb (length t) 16)
    (ends (first_out (lowest (bits - 1)) (highest (bits - 1)) 0 (t ++ wht_log rows_then_columns t)) t (wht_runs rows_then_columns t))
    (refused 6 1 0, t))
    (refused 1 0 0, t)
