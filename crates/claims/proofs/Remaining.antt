-- A history of remaining steps in lent memory, from document 02, section 9. `Reached a base m`: the calls, taken or refused, with one stride, width and
-- rows, have led from an empty history with index all 0 on the plane base to the slices m, nothing else writing to them. Assumes nothing.
--     every-history        such a history is good: in range, the plane is what its steps leave, the index is what they say (Folding: with folds among the calls too)
-- Of every good history:
--     index-is-the-list    the index is what the list of remaining steps says
--     rebuild-agrees       a rebuild is accepted and gives the same slice
--     plane-replayed       the plane is the remaining steps replayed from the first plane, each of them taken
--     remaining-undone     demand 3 over them: undoing, newest first, as though they alone had been taken, is never refused and ends at the first plane
--     undo-never-refused   the undo of the newest is accepted while one remains
--     withdraw-taken, withdraw-exactly    a withdrawal is accepted exactly if its step remains and no later one shares a sample
--     shares-by-index, apart-by-index    rows and columns less than four apart is the same as some index of the plane in common, which section 8 speaks of
--     wanted-levels, wanted-alone, wanted-none    to a wanted block in range leads exactly one list of levels while there is room, and none where 14 applies
--     as-the-step-alone    save for 12 and 14, a 5 for the rows and a 6 below the rows, answer and plane are those of the step alone
--     asked-is-answered    what `history_can_withdraw` answers is what the withdrawal answers
--     history-step-keeps, .., history-rebuild-keeps    a refused call leaves every lent slice as it was
use mathlib.Core.Path.{◌≡◌}
use mathlib.Core.Bool.{true, false}
use mathlib.Core.List.{List}
use Prim.Native.Nat.{ℕ, ◌+◌, ◌-◌, ◌≤◌, ◌<◌}
use lib.Dec.{leb}
use lib.IntN.{ℤ}
use lib.ListN.{length}
use Rattle.answers.specs.Answers.{done}
use Rattle.answers.proofs.Verdicts.{left}
use Rattle.wht.specs.Wht.{fwht}
use Rattle.lossless.specs.Step as Alone
use Rattle.lossless.specs.Step.{place, attempt}
use Rattle.lossless.specs.History.{Undoes}
use Rattle.lossless.specs.Replay.{Replay, Shares, Apart}
use Rattle.lossless.specs.Wanted.{Ready, Samples, Shows, difference}
use Rattle.remain.specs.Remaining.{Entry, count, found, entries, marks}
use Rattle.remain.specs.Touch.{shares, index_of}
use Rattle.keeping.specs.Range.{Area, within, kept}
use Rattle.keeping.specs.Steps.{step_in, steps_in}
use Rattle.history.specs.Calls.{Lent, room, spot_of, taken_out, step_verdict, stepped, step_of, undo_verdict, undo_of, withdraw_verdict, withdraw_of, rebuild_of}
use Rattle.reached.specs.Holds.{Good, Reached}
use Rattle.reached.proofs.Reaches.{reached-good, rebuild-same, can-withdraw-is}
use Rattle.reached.proofs.Always.{taken-undoes}
use Rattle.reached.proofs.Calls.{undo-accepts, withdraw-accepts, withdraw-only}
use Rattle.reached.proofs.Withdrawn.{shared}
use Rattle.reached.proofs.Blocks.{blocks-apart, blocks-meet}
use Rattle.reached.proofs.Wanted.{step-alone, exists, unique, none}
use Rattle.claims.specs.Outcomes.{Keeps}

pub every-history : (a : Area) (base : List ℤ) (m : Lent) → Reached a base m → Good a base m
every-history = reached-good

module _ (a : Area) (base : List ℤ) (m : Lent) (good : Good a base m) where
  abbrev list : ℕ
  list = count m.steps

  pub index-is-the-list : m.index ≡ index_of a.width a.rows (marks m.steps list)
  index-is-the-list = good.index_is

  pub rebuild-agrees : rebuild_of a m.steps m.levels m.index ≡ (done, m.index)
  rebuild-agrees = rebuild-same a base m good

  pub plane-replayed : Replay Alone.step_of base (steps_in a (entries m.steps m.levels list)) m.plane
  plane-replayed = good.holds

  pub remaining-undone : Undoes Alone.undo_of m.plane (steps_in a (entries m.steps m.levels list)) base
  remaining-undone = taken-undoes good.holds

  pub undo-never-refused : 0 < list → undo_of a m ≡ (done, taken_out a (list - 1) m)
  undo-never-refused some = undo-accepts a base m good.size good.holds good.keeping some

  module _ (q : ℕ) where
    pub withdraw-taken : 0 < found m.steps q list → ((j : ℕ) → spot_of m.steps q < j → j < list → shared m.steps (spot_of m.steps q) j ≡ false)
        → withdraw_of a q m ≡ (done, taken_out a (spot_of m.steps q) m)
    withdraw-taken = withdraw-accepts a base m good.size good.holds good.keeping q

    pub withdraw-exactly : (withdraw_of a q m).0.number ≡ 0
        → (0 < found m.steps q list) × ((j : ℕ) → spot_of m.steps q < j → j < list → shared m.steps (spot_of m.steps q) j ≡ false)
    withdraw-exactly = withdraw-only a base m good.size good.holds good.keeping q

  -- a block at row r, column c, inside the visible rows
  module _ (d r c : ℕ) (rows : within 4 65536 a.rows ≡ true) (low : leb (r + 4) a.rows ≡ true) where
    pub as-the-step-alone : (v : List ℤ) → ((step_of a d r c v m).0.number ≡ 12 → ⊥) → ((step_of a d r c v m).0.number ≡ 14 → ⊥)
        → ((step_of a d r c v m).0, (step_of a d r c v m).1.plane) ≡ Alone.step_of m.plane (attempt d a.stride a.width r c v)
    as-the-step-alone v = step-alone a m good.size d r c v rows low

    module _ (b : List ℤ) (ready : Ready m.plane (place d a.stride a.width r c)) (wanted : Samples d b) where
      abbrev levels : List ℤ
      levels = fwht (difference m.plane (place d a.stride a.width r c) b)

      pub wanted-levels : room m.steps ≡ true → ((step_of a d r c levels m).0 ≡ done) × Shows (step_of a d r c levels m).1.plane (place d a.stride a.width r c) b
      wanted-levels = exists a base m good d r c b rows low ready wanted

      pub wanted-alone : (v : List ℤ) → (step_of a d r c v m).0.number ≡ 0 → Shows (step_of a d r c v m).1.plane (place d a.stride a.width r c) b → v ≡ levels
      wanted-alone = unique a base m good d r c b rows low ready wanted

  pub wanted-none : (d r c : ℕ) (v : List ℤ) → room m.steps ≡ false → (step_of a d r c v m).0.number ≡ 0 → ⊥
  wanted-none d r c v = none a m good.size d r c v

pub asked-is-answered : (a : Area) (q : ℕ) (m : Lent) → (withdraw_of a q m).0 ≡ withdraw_verdict a q m
asked-is-answered = can-withdraw-is

pub shares-by-index : (a : Area) (e f : Entry) → shares e.mark.row e.mark.column f.mark.row f.mark.column ≡ true → Shares (step_in a e).at (step_in a f).at
shares-by-index = blocks-meet

pub apart-by-index : (a : Area) (e f : Entry) → e.mark.column + 4 ≤ a.stride → f.mark.column + 4 ≤ a.stride
    → shares e.mark.row e.mark.column f.mark.row f.mark.column ≡ false → Apart (step_in a e) (step_in a f)
apart-by-index = blocks-apart

-- ---- refused calls
module _ (a : Area) (m : Lent) where
  pub history-step-keeps : (d r c : ℕ) (v : List ℤ) → Keeps (step_of a d r c v m) m
  unfolding step_of
  history-step-keeps d r c v = left (step_verdict a d r c v m) m (stepped a d r c v m)

  pub history-undo-keeps : Keeps (undo_of a m) m
  unfolding undo_of
  history-undo-keeps = left (undo_verdict a m) m (taken_out a (count m.steps - 1) m)

  pub history-withdraw-keeps : (q : ℕ) → Keeps (withdraw_of a q m) m
  unfolding withdraw_of
  history-withdraw-keeps q = left (withdraw_verdict a q m) m (taken_out a (spot_of m.steps q) m)

  pub history-rebuild-keeps : Keeps (rebuild_of a m.steps m.levels m.index) m.index
  unfolding rebuild_of
  history-rebuild-keeps = left (kept a m.steps m.levels (length m.index) done) m.index (index_of a.width a.rows (marks m.steps (count m.steps)))
