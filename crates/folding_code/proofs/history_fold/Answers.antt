-- `folding_code::history_fold` meets its contract: 5 and 12, then 12 by the sums, then the work; by the pass, which is the rule. Assumes nothing.
use mathlib.Core.Path.{◌≡◌, refl, sym, ap, ◌∙◌, subst}
use mathlib.Core.Bool.{Bool, true}
use mathlib.Core.List.{List}
use Prim.Native.Nat.{ℕ, ◌≤◌}
use native.Mathlib.Omega.{arith}
use native.Mathlib.Nat.{le_trans}
use borrow.Author.Tests.{not-true, not-false}
use lib.IntN.{ℤ}
use lib.ListN.{length, length-set}
use Rattle.answers.specs.declared.Answer.{Answer}
use Rattle.answers.specs.declared.Reason.TheVariants.{History}
use Rattle.answers.specs.Answers.{done}
use Rattle.answers.proofs.Verdicts.{refuses, ends-err, ends-ok}
use Rattle.remain.specs.Remaining.{count, entries, marks}
use Rattle.remain.specs.Touch.{index_of}
use Rattle.remain.specs.Bounds.{Lying}
use Rattle.keeping.specs.Range.{Area, area, kept}
use Rattle.keeping.specs.Bounds.{Keeping}
use Rattle.keeping.proofs.Facts.{shape_is, kept-is}
use Rattle.folding.specs.Fold.{Folded, three_of, steps_folded, levels_folded}
use Rattle.folding.specs.Pass.{one_pass, pass_fair, pass_of}
use Rattle.folding.proofs.RuleFair.{pass-is-fold}
use Rattle.folding.proofs.Folds.{fold-lying}
use Rattle.folding.specs.Owners.{Listed, Placed}
use Rattle.folding.proofs.FoldCall.{listed_kept, fold-most, count-folded, fold-stops, fold-unfair, fold-opens}
use Rattle.folding.proofs.Writes.{steps-long}
use Rattle.folding_code.proofs.history_fold.Goals as goal

-- what an accepted call leaves
abbrev work : Area → List ℕ → List ℤ → Folded
work a s l =
    let us = one_pass (entries s l (count s)) in
    three_of (steps_folded us s) (levels_folded us l) (index_of a.width a.rows (marks (steps_folded us s) (length us)))

module _ (a : Area) (s : List ℕ) (l : List ℤ) (k : ℕ) (e : done ≡ kept a s l k done) where
  done-is : (kept a s l k done).number ≡ 0
  done-is = ap (λ (x : Answer). x.number) (sym e)

  keeping : Keeping a s l k
  keeping = kept-is a s l k done-is

  module _ (n : ℕ) (w : n ≡ count s) where
    listed : Listed s l n
    listed = subst (Listed s l) (sym w) (listed_kept keeping)

    module _ (o : List ℕ) (r : Bool) (p : Placed s l o n r) where
      fair-is : pass_fair (entries s l (count s)) ≡ r
      fair-is = ap (λ m. pass_fair (entries s l m)) (sym w) ∙ p.fair

      few : r ≡ true → length (one_pass (entries s l (count s))) ≤ count s
      few t = subst (λ (m : ℕ). length (one_pass (entries s l m)) ≤ m) w (fold-most (p.owned t))

pub returns-in-Err : goal.returns-in-Err
unfolding pass_of
returns-in-Err c =
    let a = area (length c.args.plane.now) c.args.stride c.args.width c.args.rows in
    let s = c.args.steps.now in
    let l = c.args.levels.now in
    let x = c.args.index.now in
    let e = c.in-Err.ensures in
    rw c.from.ensures
    (ends-err (three_of s l x) (work a s l) c.in-Err.reason
    (e ∙ fold-stops a s l (length x) (λ q. refuses c.in-Err.reason (ap (λ (y : Answer). y.number) e ∙ q))))
    ∙ pass-is-fold a s l x

pub word-n-requires : goal.word-n-requires
word-n-requires c = omega (arith, (keeping (area (length c.args.plane.now) c.args.stride c.args.width c.args.rows) c.args.steps.now c.args.levels.now (length c.args.index.now) c.in_default.ensures).steps)

pub owners-requires : goal.owners-requires
owners-requires c =
    (listed (area (length c.args.plane.now) c.args.stride c.args.width c.args.rows) c.args.steps.now c.args.levels.now (length c.args.index.now) c.in_default.ensures c.word-n.result c.word-n.ensures, refl)

pub returns-then-not-owners : goal.returns-then-not-owners
unfolding pass_of
returns-then-not-owners c =
    let a = area (length c.args.plane.now) c.args.stride c.args.width c.args.rows in
    let s = c.args.steps.now in
    let l = c.args.levels.now in
    let x = c.args.index.now in
    let e = c.in_default.ensures in
    rw c.from-then-not-owners.ensures
    (ends-err (three_of s l x) (work a s l) History
    (fold-unfair a s l (length x) (done-is a s l (length x) e)
    (fair-is a s l (length x) e c.word-n.result c.word-n.ensures c.owners.new.o c.owners.result c.owners.ensures ∙ not-true _ c.if-not-owners.true-raw)))
    ∙ pass-is-fold a s l x

pub put_back-requires : goal.put_back-requires
put_back-requires c = (
  listed (area (length c.args.plane.now) c.args.stride c.args.width c.args.rows) c.args.steps.now c.args.levels.now (length c.args.index.now) c.in_default.ensures c.word-n.result c.word-n.ensures,
  c.owners.ensures.owned (not-false _ c.if-not-owners.false-raw),
)

pub rebuild-requires : goal.rebuild-requires
rebuild-requires c =
    let a = area (length c.args.plane.now) c.args.stride c.args.width c.args.rows in
    let s = c.args.steps.now in
    let l = c.args.levels.now in
    let x = c.args.index.now in
    let e = c.in_default.ensures in
    let w = c.word-n.ensures in
    let t = not-false _ c.if-not-owners.false-raw in
    let k = keeping a s l (length x) e in
    let h = shape_is a k.shape in
    let us = one_pass (entries s l (count s)) in
    let u = c.put_back.ensures.0 ∙ (λ i. steps_folded (one_pass (entries s l (w i))) s) in
    let n = ap count u ∙ count-folded us s (omega (arith, k.steps)) in
    record {
      s_bound = (
        omega (arith, n, few a s l (length x) e c.word-n.result w c.owners.new.o c.owners.result c.owners.ensures t, k.most),
        ap length u ∙ simp length-set (steps-long us s ∙ k.steps),
        subst (λ (v : List ℕ). Lying v c.args.width c.args.rows (count v)) (sym u)
            (fold-lying k (fair-is a s l (length x) e c.word-n.result w c.owners.new.o c.owners.result c.owners.ensures ∙ t)),
      );
      width_bound = (le_trans h.width_most h.stride_most, h.rows_most, k.cells);
    }

pub returns : goal.returns
unfolding pass_of
returns c =
    let a = area (length c.args.plane.now) c.args.stride c.args.width c.args.rows in
    let s = c.args.steps.now in
    let l = c.args.levels.now in
    let x = c.args.index.now in
    let e = c.in_default.ensures in
    let w = c.word-n.ensures in
    let t = not-false _ c.if-not-owners.false-raw in
    let k = keeping a s l (length x) e in
    let us = one_pass (entries s l (count s)) in
    let u = c.put_back.ensures.0 ∙ (λ i. steps_folded (one_pass (entries s l (w i))) s) in
    let v = c.put_back.ensures.1 ∙ (λ i. levels_folded (one_pass (entries s l (w i))) l) in
    let n = ap count u ∙ count-folded us s (omega (arith, k.steps)) in
    let f = fair-is a s l (length x) e c.word-n.result w c.owners.new.o c.owners.result c.owners.ensures ∙ t in
    (λ i. (c.finished.ensures i, three_of (u i) (v i) ((c.rebuild.ensures ∙ (λ j. index_of c.args.width c.args.rows (marks (u j) (n j)))) i)))
    ∙ ends-ok (three_of s l x) (work a s l) (e ∙ fold-opens a s l (length x) (done-is a s l (length x) e) f)
    ∙ pass-is-fold a s l x
