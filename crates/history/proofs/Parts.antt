-- A verdict in two parts, one after the other. Assumes nothing.
--     then-stops, then-opens         by the first part
--     then-passed                    both parts are Done where the verdict is
--     first-refused, first-passed    a whole call by its first part
--     done-samples                   the undo's own answer is Done where its number is 0
--     judged-keeps, judged-stops, judged-opens    what the judge of the lent history answered: where Done, the history is in range and any rest follows; else that is the answer
use mathlib.Core.Path.{◌≡◌, refl, sym, ap, ◌∙◌}
use mathlib.Core.Bool.{Bool, true, false}
use mathlib.Core.List.{List}
use Prim.Native.Nat.{ℕ}
use borrow.Author.Tests.{eq-eqb, ne_eqb, eqb-true, eqb-false}
use lib.Dec.{eqb}
use lib.IntN.{ℤ}
use Rattle.whole.specs.Sums.{item}
use Rattle.answers.specs.declared.Answer.{Answer}
use Rattle.answers.specs.Answers.{done, unless, ends}
use Rattle.answers.proofs.Endings.{ends-refused, same_number}
use Rattle.answers.proofs.Verdicts.{opens, stops}
use Rattle.lossless.specs.Step.{sample}
use Rattle.lossless.proofs.Blocks.{passes, passed}
use Rattle.remain.specs.Remaining.{Entry}
use Rattle.keeping.specs.Range.{Area, kept}
use Rattle.keeping.specs.Bounds.{Keeping}
use Rattle.keeping.proofs.Facts.{kept-is}
use Rattle.keeping.proofs.Verdicts.{kept-stops, kept-opens}
use Rattle.history.specs.Calls.{spots, losses, and_then, undoing}

pub then-stops : (a rest : Answer) → (a.number ≡ 0 → ⊥) → and_then a rest ≡ a
then-stops a rest h = stops a rest (ne_eqb a.number 0 h)

pub then-opens : (a rest : Answer) → a.number ≡ 0 → and_then a rest ≡ rest
then-opens a rest h = opens a rest (eq-eqb a.number 0 h)

pub then-passed : (a rest : Answer) → (and_then a rest).number ≡ 0 → (a.number ≡ 0) × (rest.number ≡ 0)
then-passed a rest e = go (eqb a.number 0) refl e
  where
    go : (b : Bool) → eqb a.number 0 ≡ b → (unless b a rest).number ≡ 0 → (a.number ≡ 0) × (rest.number ≡ 0)
    go true q r = (eqb-true a.number 0 q, r)
    go false q r = absurd (eqb-false a.number 0 q r)

module _ {A : Type 0} (f rest : Answer) (found work : A) where
  pub first-refused : {a : Answer} → a ≡ f → (a.number ≡ 0 → ⊥) → (a, found) ≡ ends (and_then f rest) found work
  first-refused e h =
      ends-refused e found work h ∙ ap (λ x. ends x found work) (sym (then-stops f rest (λ q. h (ap (λ (x : Answer). x.number) e ∙ q))))

  pub first-passed : f.number ≡ 0 → ends (and_then f rest) found work ≡ ends rest found work
  first-passed h = ap (λ x. ends x found work) (then-opens f rest h)

pub done-samples : (t : ℕ) (p : List ℤ) (e : Entry) → (undoing t p e).number ≡ 0 → undoing t p e ≡ done
done-samples t p e h =
    let ok = sample e.mark.depth in
    let at = spots t e.mark.row e.mark.column in
    let g = item (losses e.levels) in
    passed ok at p g (passes ok at p g h)

-- r is what the judge of the lent history answered
module _ (a : Area) (s : List ℕ) (l : List ℤ) (k : ℕ) {r : Answer} (e : r ≡ kept a s l k done) where
  pub judged-keeps : r.number ≡ 0 → Keeping a s l k
  judged-keeps z = kept-is a s l k (same_number e z)

  pub judged-stops : (r.number ≡ 0 → ⊥) → (rest : Answer) → r ≡ kept a s l k rest
  judged-stops h rest = e ∙ sym (kept-stops a s l k rest (λ q. h (ap (λ (x : Answer). x.number) e ∙ q)))

  pub judged-opens : r.number ≡ 0 → (rest : Answer) → kept a s l k rest ≡ rest
  judged-opens z rest = kept-opens a s l k rest (same_number e z)
