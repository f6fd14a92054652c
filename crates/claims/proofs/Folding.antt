-- Folding, from document 02, section 10. `Led a base m`: the calls, folds among them, taken or refused, have led from an empty history on the plane base to
-- the slices m, nothing else writing to them. Assumes nothing.
--     every-folded-history     such a history is good, so that all of Remaining holds of it: the plane is what the folded list leaves, every step of it taken
--     rule-is-one-pass         the literal rule, each time the pair whose later step stands earliest, and the one pass of the code give the same answer and slices
--     none-is-left             no pair is left
--     fold-again               folding again changes nothing
--     fold-never-refused       of a good history a fold is never refused: taken steps never give a sum that is out of range
--     fold-keeps, fold-one     a refused fold leaves every lent slice; two outcomes that the promise allows are the same
use mathlib.Core.Path.{◌≡◌}
use mathlib.Core.List.{List}
use Prim.Native.Nat.{ℕ}
use lib.IntN.{ℤ}
use lib.ListN.{length}
use Rattle.answers.specs.Answers.{done, refused, unless}
use Rattle.answers.proofs.Verdicts.{left, one-outcome}
use Rattle.remain.specs.Remaining.{Entry, count, entries, marks}
use Rattle.remain.specs.Touch.{index_of}
use Rattle.keeping.specs.Range.{Area, kept}
use Rattle.history.specs.Calls.{Lent}
use Rattle.reached.specs.Holds.{Good}
use Rattle.folding.specs.Fold.{nothing, once, folded, folded_fair, three_of, steps_folded, levels_folded, fold_of}
use Rattle.folding.specs.Pass.{pass_of}
use Rattle.folding.specs.Led.{Led}
use Rattle.folding.proofs.Led.{led-good, no-pair}
use Rattle.folding.proofs.RuleFair.{pass-is-fold}
use Rattle.folding.proofs.Again.{fold-twice, fold-accepts}
use Rattle.claims.specs.Outcomes.{Keeps, One}

pub every-folded-history : (a : Area) (base : List ℤ) (m : Lent) → Led a base m → Good a base m
every-folded-history = led-good

pub none-is-left : (ts : List Entry) → once (folded ts) ≡ nothing
none-is-left = no-pair

pub fold-never-refused : (a : Area) (base : List ℤ) (m : Lent) → Good a base m → (fold_of a m.steps m.levels m.index).0 ≡ done
fold-never-refused = fold-accepts

module _ (a : Area) (s : List ℕ) (l : List ℤ) (x : List ℕ) where
  pub rule-is-one-pass : pass_of a s l x ≡ fold_of a s l x
  rule-is-one-pass = pass-is-fold a s l x

  pub fold-again : let f = (fold_of a s l x).1 in fold_of a f.steps f.levels f.index ≡ fold_of a s l x
  fold-again = fold-twice a s l x

  pub fold-keeps : Keeps (fold_of a s l x) (three_of s l x)
  unfolding fold_of
  fold-keeps =
      let us = folded (entries s l (count s)) in
      left (kept a s l (length x) (unless (folded_fair (entries s l (count s))) (refused 12 0 0) done)) (three_of s l x)
      (three_of (steps_folded us s) (levels_folded us l) (index_of a.width a.rows (marks (steps_folded us s) (length us))))

  pub fold-one : One (fold_of a s l x)
  fold-one y z p q = one-outcome p q
