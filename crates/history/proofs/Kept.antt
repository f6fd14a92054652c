-- Step, undo and withdrawal keep the index equal to what the list of remaining steps says, which is what a rebuild writes. Assumes nothing.
--     index-stepped, index-taken-out     the index, where it was right before
--     count-stepped, count-taken-out     the count
use mathlib.Core.Path.{◌≡◌, ap, ◌∙◌}
use mathlib.Core.Bool.{false, cond}
use mathlib.Core.List.{List}
use Prim.Native.Nat.{ℕ, ◌+◌, ◌*◌, ◌-◌, ◌≤◌, ◌<◌}
use lib.IntN.{ℤ}
use lib.ListN.{length, length-set}
use lib.Seq.{get_or-set_same}
use Rattle.whole.proofs.Fill.{length-tab}
use Rattle.remain.specs.Remaining.{mark, count, word, marks, number_before, put_mark}
use Rattle.remain.specs.Touch.{shares, last_touch, across, index_of, mended}
use Rattle.remain.specs.Without.{slid, steps_without}
use Rattle.keeping.specs.Range.{Area}
use Rattle.history.specs.Calls.{Lent, stepped, taken_out}
use Rattle.remain.specs.Remaining.{added_to}
use Rattle.remain.proofs.Index.{mended-index}
use Rattle.remain.proofs.Decoding.{added-marks, touch-without}

module _ (a : Area) (m : Lent) (right-index : m.index ≡ index_of a.width a.rows (marks m.steps (count m.steps))) where
  pub index-stepped : (d r c : ℕ) (v : List ℤ) → c + 4 ≤ a.width → r + 4 ≤ a.rows → 4 * count m.steps + 5 ≤ length m.steps
      → (stepped a d r c v m).index ≡ index_of a.width a.rows (marks (added_to d r c m.steps) (count m.steps + 1))
  unfolding last_touch
  index-stepped d r c v right low fit =
      ap (mended (across a.width) (marks (added_to d r c m.steps) (count m.steps + 1)) r c) right-index
      ∙ mended-index a.width a.rows r c right low (marks m.steps (count m.steps)) (marks (added_to d r c m.steps) (count m.steps + 1)) same
    where
      same : (y x : ℕ) → shares (y * 4) (x * 4) r c ≡ false → last_touch (y * 4) (x * 4) (marks (added_to d r c m.steps) (count m.steps + 1)) ≡ last_touch (y * 4) (x * 4) (marks m.steps (count m.steps))
      same y x h =
          ap (last_touch (y * 4) (x * 4)) (added-marks d r c m.steps fit)
          ∙ ap (λ b. cond b (number_before m.steps (count m.steps) + 1) (last_touch (y * 4) (x * 4) (marks m.steps (count m.steps)))) h

  pub index-taken-out : (i : ℕ) → i < count m.steps → word m.steps i 3 + 4 ≤ a.width → word m.steps i 2 + 4 ≤ a.rows → 4 * count m.steps + 1 ≤ length m.steps
      → (taken_out a i m).index ≡ index_of a.width a.rows (marks (steps_without i m.steps) (count m.steps - 1))
  index-taken-out i h right low fit =
      ap (mended (across a.width) (marks (steps_without i m.steps) (count m.steps - 1)) (word m.steps i 2) (word m.steps i 3)) right-index
      ∙ mended-index a.width a.rows (word m.steps i 2) (word m.steps i 3) right low (marks m.steps (count m.steps)) (marks (steps_without i m.steps) (count m.steps - 1))
      (λ y x q. touch-without m.steps i h fit (y * 4) (x * 4) q)

pub count-stepped : (d r c : ℕ) (s : List ℕ) → 0 < length s → count (added_to d r c s) ≡ count s + 1
count-stepped d r c s h = get_or-set_same (put_mark (count s) (mark (number_before s (count s) + 1) d r c) s) 0 (count s + 1) 0 (simp length-set h)

pub count-taken-out : (i : ℕ) (s : List ℕ) → 0 < length s → count (steps_without i s) ≡ count s - 1
unfolding slid
count-taken-out i s h = get_or-set_same (slid 0 (4 * i + 1) (4 * (count s - 1) + 1) 4 s) 0 (count s - 1) 0 (rw (length-tab (length s) _) h)
