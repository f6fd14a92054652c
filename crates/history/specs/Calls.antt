-- Step, undo of the newest, withdrawal and rebuild: the answer, and every lent slice as it is left. Definitions only; from document 02, section 9.
--     Lent                              the four lent slices
--     and_then a rest                    an answer, and where it is Done another
--     step_verdict, stepped, step_of      a step: the refusals 1, 5, 6, 12 and 7, then 8, 10 and 14; the slices then; the whole call
--     undoing t p e                     the refusals 8 and 10 of the undo of one entry, at the stride t, as that undo alone gives them
--     taken_out a i m                    the slices without entry i: its block has lost its residuals, the later entries have moved down by one,
--                                       and the cells of its block are computed anew
--     undo_verdict, undo_of               the undo of the newest: 5 and 12, 13 where none remains, then 8 and 10
--     withdraw_verdict, withdraw_of       the withdrawal of number q: 5 and 12, 13 where it doesn't remain, 8 and 10, 13 where a later one shares a sample
--     rebuild_of                         5 and 12; the whole index
use Rattle.std.specs.Prelude.{Bool, ◌&&◌, List, map, ℕ, ◌+◌, ◌*◌, ◌-◌, ltb, eqb, ℤ, neg_ℤ, length}
use Rattle.whole.specs.Sums.{item}
use Rattle.answers.specs.declared.Answer.{Answer}
use Rattle.answers.specs.Answers.{done, refused, unless, ends}
use Rattle.whole.specs.Search.{cell_at}
use Rattle.wht.specs.Wht.{iwht}
use Rattle.lossless.specs.Gains.{gained, samples}
use Rattle.lossless.specs.Step.{sample}
use Rattle.remain.specs.Remaining.{Entry, count, entry_at, marks, number_before, found, put_on, added_to}
use Rattle.remain.specs.Touch.{across, free, index_of, mended}
use Rattle.remain.specs.Without.{steps_without, levels_without}
use Rattle.keeping.specs.Range.{Area, kept, front_of}

pub record Lent : Type 0 where
  pub plane : List ℤ
  pub steps : List ℕ
  pub levels : List ℤ
  pub index : List ℕ

abbrev pub lent : List ℤ → List ℕ → List ℤ → List ℕ → Lent
lent p s l x = record { plane = p; steps = s; levels = l; index = x }

abbrev pub and_then : Answer → Answer → Answer
and_then a rest = unless (eqb a.number 0) a rest

-- the indices of the block at row r, column c, at the stride t
abbrev pub spots : ℕ → ℕ → ℕ → ℕ → ℕ
spots t r c = cell_at (r * t + c) t 4

-- ---- the step
abbrev pub room : List ℕ → Bool
room s = ltb (count s) 4096 && ltb (number_before s (count s)) 4294967295

abbrev pub step_samples : Area → ℕ → ℕ → ℕ → List ℤ → Lent → Answer
step_samples a d r c v m =
    and_then (samples (sample d) (spots a.stride r c) m.plane (item (iwht v)))
    (unless (room m.steps) (refused 14 0 0) done)

abbrev pub step_verdict : Area → ℕ → ℕ → ℕ → List ℤ → Lent → Answer
step_verdict a d r c v m = and_then (front_of a d r c v m.steps m.levels (length m.index)) (step_samples a d r c v m)

abbrev pub stepped : Area → ℕ → ℕ → ℕ → List ℤ → Lent → Lent
stepped a d r c v m =
    lent (gained (spots a.stride r c) (item (iwht v)) m.plane)
    (added_to d r c m.steps)
    (put_on (16 * count m.steps) v 16 m.levels)
    (mended (across a.width) (marks (added_to d r c m.steps) (count m.steps + 1)) r c m.index)

unfoldable pub step_of : Area → ℕ → ℕ → ℕ → List ℤ → Lent → Answer × Lent
step_of a d r c v m = ends (step_verdict a d r c v m) m (stepped a d r c v m)

-- ---- undo and withdrawal
abbrev pub losses : List ℤ → List ℤ
losses v = map neg_ℤ (iwht v)

abbrev pub undoing : ℕ → List ℤ → Entry → Answer
undoing t p e = samples (sample e.mark.depth) (spots t e.mark.row e.mark.column) p (item (losses e.levels))

abbrev pub taken_out : Area → ℕ → Lent → Lent
taken_out a i m =
    let e = entry_at m.steps m.levels i in
    let s = steps_without i m.steps in
    lent (gained (spots a.stride e.mark.row e.mark.column) (item (losses e.levels)) m.plane)
    s
    (levels_without i (count m.steps) m.levels)
    (mended (across a.width) (marks s (count m.steps - 1)) e.mark.row e.mark.column m.index)

abbrev pub undo_verdict : Area → Lent → Answer
undo_verdict a m =
    kept a m.steps m.levels (length m.index)
    (unless (ltb 0 (count m.steps)) (refused 13 0 0) (undoing a.stride m.plane (entry_at m.steps m.levels (count m.steps - 1))))

unfoldable pub undo_of : Area → Lent → Answer × Lent
undo_of a m = ends (undo_verdict a m) m (taken_out a (count m.steps - 1) m)

-- where the entry with the number q stands
abbrev pub spot_of : List ℕ → ℕ → ℕ
spot_of s q = found s q (count s) - 1

abbrev pub withdraw_verdict : Area → ℕ → Lent → Answer
withdraw_verdict a q m =
    kept a m.steps m.levels (length m.index)
    (unless (ltb 0 (found m.steps q (count m.steps))) (refused 13 0 q)
    (and_then (undoing a.stride m.plane (entry_at m.steps m.levels (spot_of m.steps q)))
    (unless (free m.steps (spot_of m.steps q)) (refused 13 0 q) done)))

unfoldable pub withdraw_of : Area → ℕ → Lent → Answer × Lent
withdraw_of a q m = ends (withdraw_verdict a q m) m (taken_out a (spot_of m.steps q) m)

-- ---- rebuild
unfoldable pub rebuild_of : Area → List ℕ → List ℤ → List ℕ → Answer × List ℕ
rebuild_of a s l x = ends (kept a s l (length x) done) x (index_of a.width a.rows (marks s (count s)))
