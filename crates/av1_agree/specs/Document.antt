-- The inverse DCT by the document's own steps, one after another. Definitions only. Nothing here is shared with the run of a table (Steps, Tables).
--     quarter                 4096 times the cosines of the angles 0 .. 64, of which 64 are a quarter of a turn, rounded
--     cos128, sin128          of any angle, 256 to a turn
--     brev k x                the k lowest bits of x in reverse
--     Step                    B a b angle flip, a butterfly; H a b flip, a sum and a difference
--     steps n                 the list of steps for 2^n numbers
--     after t s               the list after a step; saved t s what the step stores that has to fit
--     runs, log               the list after all steps; all that was stored and has to fit, in its order
--     first_out lo hi k vs     refusal 15 at the first of the values vs, counted from k, that does not lie in lo .. hi
--     by_document n bits t     the whole call on n numbers: its answer, and the list as it leaves it
use Rattle.std.specs.Prelude.{Bool, true, false, ◌&&◌, cond, List, [], ◌∷◌, ◌++◌, ℕ, zero, suc, ◌+◌, ◌*◌, ◌-◌, ◌/◌, ◌%◌, ◌^◌, eqb, leb, ℤ, pos, neg_ℤ, ◌+ℤ◌, ◌-ℤ◌, ◌*ℤ◌, length, get_or, set}
use Rattle.answers.specs.declared.Answer.{Answer}
use Rattle.answers.specs.Answers.{done, refused, unless, ends}
use Rattle.whole.specs.Numbers.{in_range, round_shift, lowest, highest}
use Rattle.whole.specs.Sums.{tab}

-- ---- angles
abbrev quarter : List ℕ
quarter =
    4096 ∷ 4095 ∷ 4091 ∷ 4085 ∷ 4076 ∷ 4065 ∷ 4052 ∷ 4036 ∷ 4017 ∷ 3996 ∷ 3973 ∷ 3948 ∷ 3920 ∷ 3889 ∷ 3857 ∷ 3822
    ∷ 3784 ∷ 3745 ∷ 3703 ∷ 3659 ∷ 3612 ∷ 3564 ∷ 3513 ∷ 3461 ∷ 3406 ∷ 3349 ∷ 3290 ∷ 3229 ∷ 3166 ∷ 3102 ∷ 3035 ∷ 2967
    ∷ 2896 ∷ 2824 ∷ 2751 ∷ 2675 ∷ 2598 ∷ 2520 ∷ 2440 ∷ 2359 ∷ 2276 ∷ 2191 ∷ 2106 ∷ 2019 ∷ 1931 ∷ 1842 ∷ 1751 ∷ 1660
    ∷ 1567 ∷ 1474 ∷ 1380 ∷ 1285 ∷ 1189 ∷ 1092 ∷ 995 ∷ 897 ∷ 799 ∷ 700 ∷ 601 ∷ 501 ∷ 401 ∷ 301 ∷ 201 ∷ 101 ∷ 0 ∷ []

abbrev within : ℕ → ℤ
within a =
    cond (leb a 64) (pos (get_or quarter a 0))
    (cond (leb a 128) (neg_ℤ (pos (get_or quarter (128 - a) 0)))
    (cond (leb a 192) (neg_ℤ (pos (get_or quarter (a - 128) 0)))
    (pos (get_or quarter (256 - a) 0))))

abbrev pub cos128 : ℕ → ℤ
cos128 a = within (a % 256)

-- the cosine of a quarter of a turn less, which is three quarters more
abbrev pub sin128 : ℕ → ℤ
sin128 a = cos128 (a + 192)

abbrev pub brev : ℕ → ℕ → ℕ
brev zero x = 0
brev (suc k) x = x % 2 * 2 ^ k + brev k (x / 2)

-- ---- steps
pub data Step : Type 0 where
  B : ℕ → ℕ → ℕ → Bool → Step
  H : ℕ → ℕ → Bool → Step

-- for i from 0 to n - 1; for i from 0 to n - 1 and within it for j from 0 to m - 1; only where the length is at least 2^k
abbrev for : ℕ → (ℕ → Step) → List Step
for n f = tab n f

abbrev join_all : List (List Step) → List Step
join_all [] = []
join_all (l ∷ ls) = l ++ join_all ls

abbrev for² : ℕ → ℕ → (ℕ → ℕ → Step) → List Step
for² n m f = join_all (tab n (λ i. tab m (λ j. f i j)))

abbrev at : ℕ → ℕ → List Step → List Step
at k n l = cond (leb k n) l []

abbrev odd : ℕ → Bool
odd i = eqb (i % 2) 1

abbrev stages : ℕ → List (List Step)
stages n =
    at 6 n (for 16 (λ i. B (32 + i) (63 - i) (63 - 4 * brev 4 i) false))
    ∷ at 5 n (for 8 (λ i. B (16 + i) (31 - i) (6 + 8 * brev 3 (7 - i)) false))
    ∷ at 6 n (for 16 (λ i. H (32 + i * 2) (33 + i * 2) (odd i)))
    ∷ at 4 n (for 4 (λ i. B (8 + i) (15 - i) (12 + 16 * brev 2 (3 - i)) false))
    ∷ at 5 n (for 8 (λ i. H (16 + 2 * i) (17 + 2 * i) (odd i)))
    ∷ at 6 n (for² 4 2 (λ i j. B (62 - i * 4 - j) (33 + i * 4 + j) (60 - 16 * brev 2 i + 64 * j) true))
    ∷ at 3 n (for 2 (λ i. B (4 + i) (7 - i) (56 - 32 * i) false))
    ∷ at 4 n (for 4 (λ i. H (8 + 2 * i) (9 + 2 * i) (odd i)))
    ∷ at 5 n (for² 2 2 (λ i j. B (30 - 4 * i - j) (17 + 4 * i + j) (24 + 64 * j + 32 * (1 - i)) true))
    ∷ at 6 n (for² 8 2 (λ i j. H (32 + i * 4 + j) (35 + i * 4 - j) (odd i)))
    ∷ for 2 (λ i. B (2 * i) (2 * i + 1) (32 + 16 * i) (eqb i 0))
    ∷ at 3 n (for 2 (λ i. H (4 + 2 * i) (5 + 2 * i) (odd i)))
    ∷ at 4 n (for 2 (λ i. B (14 - i) (9 + i) (48 + 64 * i) true))
    ∷ at 5 n (for² 4 2 (λ i j. H (16 + 4 * i + j) (19 + 4 * i - j) (odd i)))
    ∷ at 6 n (for² 2 4 (λ i j. B (61 - i * 8 - j) (34 + i * 8 + j) (56 - i * 32 + 64 * (j / 2)) true))
    ∷ for 2 (λ i. H i (3 - i) false)
    ∷ at 3 n (for 1 (λ i. B 6 5 32 true))
    ∷ at 4 n (for² 2 2 (λ i j. H (8 + 4 * i + j) (11 + 4 * i - j) (odd i)))
    ∷ at 5 n (for 4 (λ i. B (29 - i) (18 + i) (48 + 64 * (i / 2)) true))
    ∷ at 6 n (for² 4 4 (λ i j. H (32 + 8 * i + j) (39 + 8 * i - j) (odd i)))
    ∷ at 3 n (for 4 (λ i. H i (7 - i) false))
    ∷ at 4 n (for 2 (λ i. B (13 - i) (10 + i) 32 true))
    ∷ at 5 n (for² 2 4 (λ i j. H (16 + 8 * i + j) (23 + 8 * i - j) (odd i)))
    ∷ at 6 n (for 8 (λ i. B (59 - i) (36 + i) (cond (leb i 3) 48 112) true))
    ∷ at 4 n (for 8 (λ i. H i (15 - i) false))
    ∷ at 5 n (for 4 (λ i. B (27 - i) (20 + i) 32 true))
    ∷ at 6 n (for² 8 2 (λ i j. H (32 + 16 * j + i) (47 + 16 * j - i) (odd j)))
    ∷ at 5 n (for 16 (λ i. H i (31 - i) false))
    ∷ at 6 n (for 8 (λ i. B (55 - i) (40 + i) 32 true))
    ∷ at 6 n (for 32 (λ i. H i (63 - i) false))
    ∷ []

abbrev pub steps : ℕ → List Step
steps n = join_all (stages n)

-- ---- what a step does
abbrev exchange : List ℤ → ℕ → ℕ → List ℤ
exchange t a b = set (set t a (get_or t b (pos 0))) b (get_or t a (pos 0))

abbrev turn : List ℤ → ℕ → ℕ → ℕ → List ℤ
turn t a b angle =
    set (set t a (round_shift 12 (get_or t a (pos 0) *ℤ cos128 angle -ℤ get_or t b (pos 0) *ℤ sin128 angle)))
    b (round_shift 12 (get_or t a (pos 0) *ℤ sin128 angle +ℤ get_or t b (pos 0) *ℤ cos128 angle))

abbrev hadamard : List ℤ → ℕ → ℕ → List ℤ
hadamard t a b = set (set t a (get_or t a (pos 0) +ℤ get_or t b (pos 0))) b (get_or t a (pos 0) -ℤ get_or t b (pos 0))

abbrev pair : List ℤ → ℕ → ℕ → List ℤ
pair t a b = (get_or t a (pos 0) +ℤ get_or t b (pos 0)) ∷ (get_or t a (pos 0) -ℤ get_or t b (pos 0)) ∷ []

unfoldable pub after : List ℤ → Step → List ℤ
after t (B a b angle false) = turn t a b angle
after t (B a b angle true) = exchange (turn t a b angle) a b
after t (H a b false) = hadamard t a b
after t (H a b true) = hadamard t b a

unfoldable pub saved : List ℤ → Step → List ℤ
saved t (B a b angle flip) = []
saved t (H a b false) = pair t a b
saved t (H a b true) = pair t b a

-- ---- the whole call
unfoldable pub runs : List Step → List ℤ → List ℤ
runs [] t = t
runs (s ∷ ss) t = runs ss (after t s)

unfoldable pub log : List Step → List ℤ → List ℤ
log [] t = []
log (s ∷ ss) t = saved t s ++ log ss (after t s)

unfoldable pub first_out : ℤ → ℤ → ℕ → List ℤ → Answer
first_out lo hi k [] = done
first_out lo hi k (v ∷ vs) = unless (in_range lo hi v) (refused 15 0 k) (first_out lo hi (suc k) vs)

-- the permutation that comes before the steps
abbrev pub reordered : ℕ → List ℤ → List ℤ
reordered n t = tab (2 ^ n) (λ i. get_or t (brev n i) (pos 0))

-- on 2^n numbers whose count and bits are accepted
unfoldable pub processed : ℕ → ℕ → List ℤ → Answer × List ℤ
processed n bits t =
    ends (first_out (lowest (bits - 1)) (highest (bits - 1)) 0 (t ++ log (steps n) (reordered n t))) t (runs (steps n) (reordered n t))

abbrev whether : Bool → ℕ → ℕ → List ℤ → Answer × List ℤ → Answer × List ℤ
whether b number slice t rest = cond b rest (refused number slice 0, t)

abbrev of_length : ℕ → ℕ → List ℤ → Answer × List ℤ
of_length n bits t = whether (eqb (length t) (2 ^ n)) 6 1 t (processed n bits t)

unfoldable pub by_document : ℕ → ℕ → List ℤ → Answer × List ℤ
by_document n bits t =
    whether (leb 16 bits && leb bits 20) 1 0 t
    (cond (eqb n 4) (of_length 2 bits t)
    (cond (eqb n 8) (of_length 3 bits t)
    (cond (eqb n 16) (of_length 4 bits t)
    (cond (eqb n 32) (of_length 5 bits t)
    (cond (eqb n 64) (of_length 6 bits t)
    (refused 2 0 0, t))))))
