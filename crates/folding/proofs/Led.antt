-- What holds of every history that calls, folds among them, have led to. Assumes nothing.
--     led-good          in range, the plane is the remaining steps replayed from the first one, each of them taken, and the index is what the list says
--     no-pair           a folded list has no pair left; fold-outcome: the promise allows one outcome
use mathlib.Core.Path.{◌≡◌, sym, ap, ◌∙◌, subst}
use mathlib.Core.List.{List}
use Prim.Native.Nat.{ℕ}
use lib.IntN.{ℤ}
use Rattle.answers.specs.declared.Answer.{Answer}
use Rattle.answers.proofs.Verdicts.{one-outcome}
use Rattle.remain.specs.Remaining.{Entry}
use Rattle.keeping.specs.Range.{Area}
use Rattle.history.specs.Calls.{Lent, lent}
use Rattle.reached.specs.Holds.{Good}
use Rattle.reached.proofs.Always.{good-empty, good-step, good-undo, good-withdraw}
use Rattle.reached.proofs.Reaches.{rebuild-same}
use Rattle.folding.specs.Fold.{nothing, once, folded, Folded, fold_of}
use Rattle.folding.specs.Led as D
use Rattle.folding.specs.Led.{Led}
use Rattle.folding.proofs.OnePass.{once-none, pass-settled, rule-is-pass}
use Rattle.folding.proofs.Folds.{good-fold}

pub led-good : (a : Area) (base : List ℤ) (m : Lent) → Led a base m → Good a base m
led-good a base m (D.begun b e) = subst (λ (p : List ℤ). Good a p m) e (good-empty a m b.size b.shape b.steps b.levels b.empty b.index)
led-good a base m (D.stepped {m = n} d r c v h) = good-step a base n (led-good a base n h) d r c v
led-good a base m (D.undone {m = n} h) = good-undo a base n (led-good a base n h)
led-good a base m (D.withdrawn {m = n} q h) = good-withdraw a base n (led-good a base n h) q
led-good a base m (D.rebuilt {m = n} h) =
    let g = led-good a base n h in
    subst (λ (x : List ℕ). Good a base (lent n.plane n.steps n.levels x)) (sym (ap (λ (y : Answer × List ℕ). y.1) (rebuild-same a base n g))) g
led-good a base m (D.folded {m = n} h) = good-fold a base n (led-good a base n h)

pub no-pair : (ts : List Entry) → once (folded ts) ≡ nothing
no-pair ts = ap once (rule-is-pass ts) ∙ once-none (pass-settled ts)

pub fold-outcome : (a : Area) (s : List ℕ) (l : List ℤ) (i : List ℕ) {x y : Answer × Folded} → x ≡ fold_of a s l i → y ≡ fold_of a s l i → x ≡ y
fold-outcome a s l i = one-outcome
