-- The whole call, by its parts. Assumes nothing.
--     listed_kept        a history in range is what the code of the fold asks for
--     fold-most          the folded list is no longer than the list
--     count-folded       its count
--     fold-stops, fold-unfair, fold-opens     the verdict, by its parts
use mathlib.Core.Path.{◌≡◌, sym, ◌∙◌, subst}
use mathlib.Core.Bool.{true, false}
use mathlib.Core.List.{List}
use Prim.Native.Nat.{ℕ, ◌+◌, ◌≤◌, ◌<◌}
use native.Mathlib.Nat as N
use native.Mathlib.Omega.{arith}
use lib.Dec.{lit<}
use lib.IntN.{ℤ}
use lib.ListN.{length}
use lib.Seq.{get_or-set_same}
use Rattle.answers.specs.declared.Answer.{Answer}
use Rattle.answers.specs.Answers.{done, refused, unless}
use Rattle.answers.proofs.Verdicts.{opens, stops}
use Rattle.remain.specs.Remaining.{Entry, count, entries}
use Rattle.keeping.specs.Range.{Area, kept}
use Rattle.keeping.specs.Bounds.{Keeping}
use Rattle.keeping.proofs.Facts.{shape_is, entered}
use Rattle.keeping.proofs.Verdicts.{kept-stops, kept-opens}
use Rattle.folding.specs.Fold.{steps_put, steps_folded}
use Rattle.folding.specs.Pass.{one_pass, pass_fair, fold_verdict}
use Rattle.folding.specs.Owners.{owner, Listed, Owned}
use Rattle.folding.proofs.Writes.{steps-long, groups-most}

pub listed_kept : {a : Area} {s : List ℕ} {l : List ℤ} {k : ℕ} → Keeping a s l k → Listed s l (count s)
listed_kept {a} {s} {l} {k} q =
    let h = shape_is a q.shape in
    record {
      steps = q.steps;
      levels = q.levels;
      most = q.most;
      deep = λ j i. (entered q j i).deep.1;
      near = λ j i. let b = (entered q j i).stand in (N.lt_of_le_of_lt (low b.low h.rows_most) (lit< tt), N.lt_of_le_of_lt (right b.right h.width_most h.stride_most) (lit< tt));
      sixteen = λ j i. (entered q j i).sixteen;
    }
  where
    low : {x y : ℕ} → x + 4 ≤ y → y ≤ 65536 → x ≤ 65536
    low a b = omega arith

    right : {x y z : ℕ} → x + 4 ≤ y → y ≤ z → z ≤ 65536 → x ≤ 65536
    right a b c = omega arith

pub fold-most : {s : List ℕ} {l : List ℤ} {o : List ℕ} {n : ℕ} → Owned s l o n → length (one_pass (entries s l n)) ≤ n
fold-most {s} {l} {o} {n} p = subst (λ (us : List Entry). length us ≤ n) (sym p.is) (groups-most (owner o) s l n n)

pub count-folded : (us : List Entry) (s : List ℕ) → 0 < length s → count (steps_folded us s) ≡ length us
count-folded us s h = get_or-set_same (steps_put us s) 0 (length us) 0 (rw (steps-long us s) h)

module _ (a : Area) (s : List ℕ) (l : List ℤ) (k : ℕ) where
  abbrev rest : Answer
  rest = unless (pass_fair (entries s l (count s))) (refused 12 0 0) done

  pub fold-stops : ((kept a s l k done).number ≡ 0 → ⊥) → kept a s l k done ≡ fold_verdict a s l k
  fold-stops h = sym (kept-stops a s l k rest h)

  pub fold-unfair : (kept a s l k done).number ≡ 0 → pass_fair (entries s l (count s)) ≡ false → refused 12 0 0 ≡ fold_verdict a s l k
  fold-unfair h e = sym (kept-opens a s l k rest h ∙ stops (refused 12 0 0) done e)

  pub fold-opens : (kept a s l k done).number ≡ 0 → pass_fair (entries s l (count s)) ≡ true → kept a s l k done ≡ fold_verdict a s l k
  fold-opens h e = kept-opens a s l k done h ∙ sym (kept-opens a s l k rest h ∙ opens (refused 12 0 0) done e)
