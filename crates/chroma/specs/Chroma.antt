-- The chroma call, on lists of whole numbers. Definitions only; from document 01, "Chroma pairs and WHT" and "Refusal numbers",
-- and document 02, section 6: slice 4 is the list of the u, slice 5 that of the v.
--     round256 z                    z / 256, halves away from zero
--     low depth, high depth         the chroma range, -2^(depth + 7) .. 2^(depth + 7) - 1
--     turn_u, turn_v lo hi s c u v    the pair u, v turned by sine s and cosine c, clamped to lo .. hi
--     item l k                      number k of the list l
--     turned lo hi s c u v          both lists, turned: pair k from pair k
--     pair_ok lo hi u v k            both numbers of pair k lie in lo .. hi
--     angle_ok z                     z lies in -256 .. 256
--     shorter_of m n                 the slice that is the shorter, of lists of m and n numbers
--     bad_of lo hi u k               the slice that is out of range at a bad pair k: 4 where u is, also where both are
--     first_bad u v depth            the first pair out of range, or the length where there is none
--     verdict                       the answer: the lowest refusal that applies, or Done
--     cctx_of                        the whole call: its answer, and the two lists as it leaves them
use Rattle.std.specs.Prelude.{Bool, ◌&&◌, cond, List, ℕ, suc, ◌+◌, ◌/◌, leb, ltb, eqb, ℤ, pos, negsuc, neg_ℤ, ◌+ℤ◌, ◌-ℤ◌, ◌*ℤ◌, length}
use Rattle.whole.specs.Numbers.{in_range, clamp, lowest, highest}
use Rattle.whole.specs.Search.{seek}
use Rattle.whole.specs.Sums.{tab, item}
use Rattle.answers.specs.Answers.{done, refused, unless, searched, ends}
use Rattle.answers.specs.declared.Answer.{Answer}

-- the size is rounded, then the sign put back
unfoldable pub round256 : ℤ → ℤ
round256 (pos n) = pos ((n + 128) / 256)
round256 (negsuc n) = neg_ℤ (pos ((suc n + 128) / 256))

abbrev pub low : ℕ → ℤ
low depth = lowest (depth + 7)

abbrev pub high : ℕ → ℤ
high depth = highest (depth + 7)

abbrev pub turn_u : ℤ → ℤ → ℤ → ℤ → ℤ → ℤ → ℤ
turn_u lo hi s c u v = clamp lo hi (round256 (u *ℤ c -ℤ v *ℤ s))

abbrev pub turn_v : ℤ → ℤ → ℤ → ℤ → ℤ → ℤ → ℤ
turn_v lo hi s c u v = clamp lo hi (round256 (u *ℤ s +ℤ v *ℤ c))

abbrev pub turned : ℤ → ℤ → ℤ → ℤ → List ℤ → List ℤ → List ℤ × List ℤ
turned lo hi s c u v =
    (tab (length u) (λ k. turn_u lo hi s c (item u k) (item v k)), tab (length v) (λ k. turn_v lo hi s c (item u k) (item v k)))

abbrev pub pair_ok : ℤ → ℤ → List ℤ → List ℤ → ℕ → Bool
pair_ok lo hi u v k = in_range lo hi (item u k) && in_range lo hi (item v k)

abbrev pub angle_ok : ℤ → Bool
angle_ok z = in_range (negsuc 255) (pos 256) z

abbrev pub shorter_of : ℕ → ℕ → ℕ
shorter_of m n = cond (ltb m n) 4 5

abbrev pub bad_of : ℤ → ℤ → List ℤ → ℕ → ℕ
bad_of lo hi u k = cond (in_range lo hi (item u k)) 5 4

abbrev pub first_bad : List ℤ → List ℤ → ℕ → ℕ
first_bad u v depth = seek (pair_ok (low depth) (high depth) u v) 0 (length u)

unfoldable pub verdict : List ℤ → List ℤ → ℤ → ℤ → ℕ → Answer
verdict u v s c depth =
    unless (leb 8 depth && leb depth 12) (refused 1 0 0)
    (unless (eqb (length u) (length v)) (refused 6 (shorter_of (length u) (length v)) 0)
    (searched 7 (bad_of (low depth) (high depth) u (first_bad u v depth)) (length u) (λ k. k) (first_bad u v depth)
    (unless (angle_ok s) (refused 9 0 0)
    (unless (angle_ok c) (refused 9 0 1)
    done))))

unfoldable pub cctx_of : List ℤ → List ℤ → ℤ → ℤ → ℕ → Answer × (List ℤ × List ℤ)
cctx_of u v s c depth = ends (verdict u v s c depth) (u, v) (turned (low depth) (high depth) s c u v)
