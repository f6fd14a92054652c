-- Steps on a list of whole numbers, one after another. Definitions only.
-- A step is three numbers a, b, g. Where g is 0 it puts the sum of the numbers at a and b at a and their difference at b, and both have to lie in lo .. hi.
-- Where g is from 1 to 127 it turns the pair by the angle number g; from 129 to 255 it turns it by the angle number g - 128, and the two results change places.
--     item l k                     number k of the list l
--     cos_of cos h, sin_of cos h     cosine and sine of the angle number h, in a list of pairs; pair 0 is not used
--     turn_x, turn_y c s x y         the pair x, y turned
--     turn_of                       both results stored, at d and at e
--     sums_of lo hi a b p t         the sum and the difference, the places p and p + 1: an answer, and the list. Number 0 goes on, at its place
--     step_of                       a step, with the place of what it stores first
--     onward w f                   what follows a step that was not refused
--     goes                         m steps of a table, from number k on; p is the place of what is stored next
use Rattle.std.specs.Prelude.{cond, List, ℕ, zero, suc, ◌+◌, ◌*◌, ◌-◌, eqb, ltb, ℤ, ◌+ℤ◌, ◌-ℤ◌, ◌*ℤ◌, get_or, set}
use Rattle.whole.specs.Sums.{item}
use Rattle.answers.specs.declared.Answer.{Answer}
use Rattle.answers.specs.Answers.{done, refused, unless, ends}
use Rattle.whole.specs.Numbers.{in_range, round_shift}

abbrev pub cos_of : List ℤ → ℕ → ℤ
cos_of cos h = item cos (h * 2)

abbrev pub sin_of : List ℤ → ℕ → ℤ
sin_of cos h = item cos (h * 2 + 1)

unfoldable pub turn_x : ℤ → ℤ → ℤ → ℤ → ℤ
turn_x c s x y = round_shift 12 (x *ℤ c -ℤ y *ℤ s)

unfoldable pub turn_y : ℤ → ℤ → ℤ → ℤ → ℤ
turn_y c s x y = round_shift 12 (x *ℤ s +ℤ y *ℤ c)

abbrev pub turn_of : List ℤ → ℕ → ℕ → ℕ → ℕ → ℕ → List ℤ → List ℤ
turn_of cos h a b d e t =
    set (set t d (turn_x (cos_of cos h) (sin_of cos h) (item t a) (item t b))) e (turn_y (cos_of cos h) (sin_of cos h) (item t a) (item t b))

abbrev pub sums_verdict : ℤ → ℤ → ℤ → ℤ → ℕ → Answer
sums_verdict lo hi u v p = unless (in_range lo hi u) (refused 15 0 p) (unless (in_range lo hi v) (refused 15 0 (p + 1)) (refused 0 0 (p + 2)))

abbrev pub sums_of : ℤ → ℤ → ℕ → ℕ → ℕ → List ℤ → Answer × List ℤ
sums_of lo hi a b p t =
    ends (sums_verdict lo hi (item t a +ℤ item t b) (item t a -ℤ item t b) p) t (set (set t a (item t a +ℤ item t b)) b (item t a -ℤ item t b))

unfoldable pub step_of : ℤ → ℤ → List ℤ → ℕ → ℕ → ℕ → ℕ → List ℤ → Answer × List ℤ
step_of lo hi cos a b g p t =
    cond (eqb g 0) (sums_of lo hi a b p t) (cond (ltb g 128) (refused 0 0 p, turn_of cos g a b a b t) (refused 0 0 p, turn_of cos (g - 128) a b b a t))

abbrev pub onward : Answer × List ℤ → (ℕ → List ℤ → Answer × List ℤ) → Answer × List ℤ
onward w f = cond (eqb w.0.number 0) (f w.0.place w.1) w

unfoldable pub goes : ℤ → ℤ → List ℤ → List ℕ → ℕ → ℕ → ℕ → List ℤ → Answer × List ℤ
goes lo hi cos ops k zero p t = (done, t)
goes lo hi cos ops k (suc m) p t =
    onward (step_of lo hi cos (get_or ops (k * 3) 0) (get_or ops (k * 3 + 1) 0) (get_or ops (k * 3 + 2) 0) p t) (λ q u. goes lo hi cos ops (suc k) m q u)
