-- A history that calls have led to. Definitions only; from document 02, sections 8 and 9.
--     Holds a base m      the remaining steps, taken one after the other from the plane at the history's beginning, leave the present plane
--     Good a base m       in range, it holds, and its index is what the list of remaining steps says: what every call keeps
--     Begun a m           a history at its beginning: empty, its index all 0
--     Reached a base m    m is what calls have led to from such a beginning on the plane base, taken or refused, nothing else writing to the slices
use Rattle.std.specs.Prelude.{◌≡◌, true, List, ℕ, ◌*◌, ℤ, length}
use Rattle.whole.specs.Sums.{tab}
use Rattle.lossless.specs.Step.{step_of}
use Rattle.lossless.specs.Replay.{Replay}
use Rattle.remain.specs.Remaining.{count, entries, marks}
use Rattle.remain.specs.Touch.{across, index_of}
use Rattle.keeping.specs.Bounds.{Keeping}
use Rattle.keeping.specs.Range.{Area, shaped}
use Rattle.keeping.specs.Steps.{steps_in}
use Rattle.history.specs.Calls as C
use Rattle.history.specs.Calls.{Lent, lent}

abbrev pub Holds : Area → List ℤ → Lent → Type 0
Holds a base m = Replay step_of base (steps_in a (entries m.steps m.levels (count m.steps))) m.plane

pub record Good (a : Area) (base : List ℤ) (m : Lent) : Type 0 where
  pub size : a.size ≡ length m.plane
  pub keeping : Keeping a m.steps m.levels (length m.index)
  pub holds : Holds a base m
  pub index_is : m.index ≡ index_of a.width a.rows (marks m.steps (count m.steps))

pub record Begun (a : Area) (m : Lent) : Type 0 where
  pub size : a.size ≡ length m.plane
  pub shape : shaped a ≡ true
  pub steps : length m.steps ≡ 16385
  pub levels : length m.levels ≡ 65536
  pub empty : count m.steps ≡ 0
  pub index : m.index ≡ tab (across a.rows * across a.width) (λ _. 0)

pub data Reached (a : Area) (base : List ℤ) : Lent → Type 0 where
  begun : {m : Lent} → Begun a m → m.plane ≡ base → Reached a base m
  stepped : {m : Lent} (d r c : ℕ) (v : List ℤ) → Reached a base m → Reached a base (C.step_of a d r c v m).1
  undone : {m : Lent} → Reached a base m → Reached a base (C.undo_of a m).1
  withdrawn : {m : Lent} (q : ℕ) → Reached a base m → Reached a base (C.withdraw_of a q m).1
  rebuilt : {m : Lent} → Reached a base m → Reached a base (lent m.plane m.steps m.levels (C.rebuild_of a m.steps m.levels m.index).1)
