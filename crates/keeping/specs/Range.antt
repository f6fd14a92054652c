-- A history in range, and the refusals 1, 5, 6, 12 and 7 by the arguments alone. Definitions only; from document 02, section 9.
--     Area                  the plane's length, the stride, the visible width and the count of visible rows: what all calls of one history name
--     area_of a             that, as the code has it
--     shaped a              the tests of 5: stride 4 to 65,536, width 4 to the stride, rows 4 to 65,536
--     stands a r c          the test of 6: a step alone would fit there, and the block lies in the visible rows
--     entry_ok a s l i       entry i is in range: depth, place, levels, and a number above the one before it, which is 0 for the first
--     sound a s l k         the test of 12: the three lengths, the count, and each entry; k is the index's length
--     kept a s l k rest     the refusals 5 and 12, then what follows
--     front_of               the refusals 1, 5, 6, 12 and 7 of a step
use Rattle.std.specs.Prelude.{Bool, ◌&&◌, List, ℕ, ◌+◌, ◌*◌, leb, ltb, eqb, ℤ, pos, neg_ℤ, length}
use Rattle.answers.specs.declared.Answer.{Answer}
use Rattle.answers.specs.Answers.{done, refused, unless, searched}
use Rattle.whole.specs.Search.{seek}
use Rattle.wht.specs.Calls.{number_ok}
use Rattle.lossless.specs.Step.{place, fits}
use Rattle.keeping.specs.declared.front.Area as front
use Rattle.remain.specs.Remaining.{count, number_at, word, levels_at, number_before}
use Rattle.remain.specs.Touch.{across}

pub record Area : Type 0 where
  pub size : ℕ
  pub stride : ℕ
  pub width : ℕ
  pub rows : ℕ

abbrev pub area : ℕ → ℕ → ℕ → ℕ → Area
area n t w h = record { size = n; stride = t; width = w; rows = h }

abbrev pub area_of : front.Area → Area
area_of a = area a.size a.stride a.width a.rows

abbrev pub within : ℕ → ℕ → ℕ → Bool
within lo hi n = leb lo n && leb n hi

abbrev pub shaped : Area → Bool
shaped a = within 4 65536 a.stride && (within 4 a.stride a.width && within 4 65536 a.rows)

abbrev pub stands : Area → ℕ → ℕ → Bool
stands a r c = fits (place 0 a.stride a.width r c) a.size && leb (r + 4) a.rows

-- the first level outside -262,144 to 262,144, or 16
abbrev pub first_off : List ℤ → ℕ
first_off v = seek (number_ok (neg_ℤ (pos 262144)) (pos 262144) v) 0 16

abbrev pub mark_ok : Area → List ℕ → ℕ → Bool
mark_ok a s i = within 8 12 (word s i 1) && (stands a (word s i 2) (word s i 3) && ltb (number_before s i) (number_at s i))

abbrev pub entry_ok : Area → List ℕ → List ℤ → ℕ → Bool
entry_ok a s l i = mark_ok a s i && leb 16 (first_off (levels_at l i))

unfoldable pub sound : Area → List ℕ → List ℤ → ℕ → Bool
sound a s l k =
    eqb (length s) 16385
    && (eqb (length l) 65536
    && (eqb k (across a.rows * across a.width)
    && (leb (count s) 4096
    && leb (count s) (seek (entry_ok a s l) 0 (count s)))))

abbrev pub kept : Area → List ℕ → List ℤ → ℕ → Answer → Answer
kept a s l k rest = unless (shaped a) (refused 5 0 0) (unless (sound a s l k) (refused 12 0 0) rest)

abbrev pub front_of : Area → ℕ → ℕ → ℕ → List ℤ → List ℕ → List ℤ → ℕ → Answer
front_of a d r c v s l k =
    unless (within 8 12 d) (refused 1 0 0)
    (unless (shaped a) (refused 5 0 0)
    (unless (eqb (length v) 16) (refused 6 1 0)
    (unless (stands a r c) (refused 6 2 0)
    (unless (sound a s l k) (refused 12 0 0)
    (searched 7 1 16 (λ k. k) (first_off v) done)))))
