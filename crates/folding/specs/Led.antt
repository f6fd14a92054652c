-- Histories that calls have led to, folds among them. Definitions only; from document 02, section 10.
--     with_folded m f     the history m with the three slices that a fold left
--     Led a base m       m is what calls have led to from an empty history on the plane base, taken or refused, nothing else writing to the slices
use Rattle.std.specs.Prelude.{◌≡◌, List, ℕ, ℤ}
use Rattle.keeping.specs.Range.{Area}
use Rattle.history.specs.Calls.{Lent, lent, step_of, undo_of, withdraw_of, rebuild_of}
use Rattle.reached.specs.Holds.{Begun}
use Rattle.folding.specs.Fold.{Folded, fold_of}

abbrev pub with_folded : Lent → Folded → Lent
with_folded m f = lent m.plane f.steps f.levels f.index

pub data Led (a : Area) (base : List ℤ) : Lent → Type 0 where
  begun : {m : Lent} → Begun a m → m.plane ≡ base → Led a base m
  stepped : {m : Lent} (d r c : ℕ) (v : List ℤ) → Led a base m → Led a base (step_of a d r c v m).1
  undone : {m : Lent} → Led a base m → Led a base (undo_of a m).1
  withdrawn : {m : Lent} (q : ℕ) → Led a base m → Led a base (withdraw_of a q m).1
  rebuilt : {m : Lent} → Led a base m → Led a base (lent m.plane m.steps m.levels (rebuild_of a m.steps m.levels m.index).1)
  folded : {m : Lent} → Led a base m → Led a base (with_folded m (fold_of a m.steps m.levels m.index).1)
