-- Folding in one pass from the oldest step on, as the code does it. Definitions only. That it is the rule of Fold.antt is proved (proofs/Folds.antt), so
-- nothing here has to be believed. Lists of steps are newest first.
--     one_pass ts       each step, the oldest first, becomes one with its partner among those already passed, or stands beside them
--     pass_fair ts      every sum of the pass is in range
--     fold_verdict, pass_of    the whole call by the pass
use Rattle.std.specs.Prelude.{Bool, true, ◌&&◌, List, [], ◌∷◌, ℕ, ℤ, length}
use Rattle.answers.specs.declared.Answer.{Answer}
use Rattle.answers.specs.Answers.{done, refused, unless, ends}
use Rattle.remain.specs.Remaining.{Entry, count, entries, marks}
use Rattle.remain.specs.Touch.{index_of}
use Rattle.keeping.specs.Range.{Area, kept}
use Rattle.folding.specs.Fold.{Perhaps, nothing, just, joins, join_fair, steps_folded, levels_folded, Folded, three_of}

abbrev pub placed : Entry → List Entry → Perhaps (List Entry) → List Entry
placed e ts nothing = e ∷ ts
placed e ts (just us) = us

unfoldable pub one_pass : List Entry → List Entry
one_pass [] = []
one_pass (e ∷ ts) = placed e (one_pass ts) (joins e (one_pass ts))

unfoldable pub pass_fair : List Entry → Bool
pass_fair [] = true
pass_fair (e ∷ ts) = pass_fair ts && join_fair e (one_pass ts)

abbrev pub fold_verdict : Area → List ℕ → List ℤ → ℕ → Answer
fold_verdict a s l k = kept a s l k (unless (pass_fair (entries s l (count s))) (refused 12 0 0) done)

unfoldable pub pass_of : Area → List ℕ → List ℤ → List ℕ → Answer × Folded
pass_of a s l x =
    let us = one_pass (entries s l (count s)) in
    ends (fold_verdict a s l (length x)) (three_of s l x)
    (three_of (steps_folded us s) (levels_folded us l) (index_of a.width a.rows (marks (steps_folded us s) (length us))))
