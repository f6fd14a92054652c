-- Every call keeps a history good, whatever its arguments, taken or refused. Assumes nothing.
--     good-empty                            the empty history
--     good-step, good-undo, good-withdraw   each call
--     taken-undoes                          the remaining steps, undone newest first
use mathlib.Core.Path.{◌≡◌, refl, sym, ap, ◌∙◌}
use mathlib.Core.Bool.{Bool, true, false}
use mathlib.Core.List.{List}
use Prim.Native.Nat.{ℕ, ◌*◌, ◌-◌, ◌<◌}
use native.Mathlib.Omega.{arith}
use borrow.Author.Tests.{eqb-true, ltb-true}
use lib.Dec.{eqb, ltb}
use lib.IntN.{ℤ}
use lib.ListN.{length}
use Rattle.answers.specs.declared.Answer.{Answer}
use Rattle.answers.specs.Answers.{refused, unless, ends}
use Rattle.answers.proofs.Verdicts.{passed}
use Rattle.whole.specs.Sums.{tab, item}
use Rattle.whole.proofs.Fill.{length-tab}
use Rattle.wht.specs.Wht.{iwht}
use Rattle.lossless.specs.Gains.{gain}
use Rattle.lossless.specs.Step as S
use Rattle.lossless.specs.Step.{Step}
use Rattle.lossless.specs.History.{Undoes, none, next}
use Rattle.lossless.proofs.Gains.{length-add_on}
use Rattle.lossless.proofs.Undo.{undo-exact}
use Rattle.lossless.specs.Replay.{Replay, start, more}
use Rattle.remain.specs.Remaining.{Mark, count, number_at, word, levels_at, entry_at, marks, found}
use Rattle.remain.specs.Touch.{across, free, index_of, last_touch}
use Rattle.remain.specs.Without.{steps_without}
use Rattle.remain.proofs.Finds.{last-most}
use Rattle.history.specs.Calls as C
use Rattle.keeping.specs.Range.{Area, shaped}
use Rattle.history.specs.Calls.{Lent, spots, losses, step_verdict, stepped, taken_out, undo_verdict, withdraw_verdict, spot_of, undoing}
use Rattle.remain.specs.Remaining.{added_to}
use Rattle.keeping.specs.Bounds.{Keeping}
use Rattle.keeping.proofs.Facts.{entered}
use Rattle.history.proofs.Kept.{index-stepped, index-taken-out, count-stepped, count-taken-out}
use Rattle.reached.specs.Holds.{Good}
use Rattle.reached.proofs.Calls as R
use Rattle.reached.proofs.Withdrawn.{free-make}
use Rattle.reached.proofs.Keeps.{keeping-stepped, keeping-taken-out}

-- the same history with an index of the same length
pub with-index : {a : Area} {s : List ℕ} {l : List ℤ} {k : ℕ} (k' : ℕ) → Keeping a s l k → k' ≡ across a.rows * across a.width → Keeping a s l k'
with-index k' q e = record { shape = q.shape; steps = q.steps; levels = q.levels; cells = e; most = q.most; each = q.each }

pub index-long : (a : Area) (ms : List Mark) {x : List ℕ} → x ≡ index_of a.width a.rows ms → length x ≡ across a.rows * across a.width
index-long a ms e = ap length e ∙ length-tab (across a.rows * across a.width) _

-- what a call leaves, by its answer
pub by_answer : {A : Type 0} (P : A → Type 0) (v : Answer) (found work : A) → P found → (v.number ≡ 0 → P work) → P (ends v found work).1
by_answer P v found work a b = go (eqb v.number 0) refl
  where
    go : (t : Bool) → eqb v.number 0 ≡ t → P (unless t found work)
    go true e = b (eqb-true v.number 0 e)
    go false e = a

module _ (a : Area) (base : List ℤ) (m : Lent) (g : Good a base m) where
  pub good-step : (d r c : ℕ) (v : List ℤ) → Good a base (C.step_of a d r c v m).1
  unfolding C.step_of
  good-step d r c v = by_answer (Good a base) (step_verdict a d r c v m) m (stepped a d r c v m) g taken
    where
      taken : (step_verdict a d r c v m).number ≡ 0 → Good a base (stepped a d r c v m)
      taken e =
          let f = R.args a base m g.size g.holds d r c v e in
          let less = R.less a base m g.size g.holds d r c v e in
          let k = g.keeping in
          let i = index-stepped a m g.index_is d r c v f.stand.right f.stand.low (omega (arith, k.steps, less))
          ∙ ap (λ n. index_of a.width a.rows (marks (added_to d r c m.steps) n)) (sym (count-stepped d r c m.steps (omega (arith, k.steps)))) in
          record {
            size = g.size ∙ sym (length-add_on (gain (spots a.stride r c) (item (iwht v)) 16) m.plane);
            keeping = with-index (length (stepped a d r c v m).index) (keeping-stepped a d r c v m.steps m.levels (length m.index) (R.parts a base m g.size g.holds d r c v e).0 k f.sixteen.count less)
                (index-long a (marks (added_to d r c m.steps) (count (added_to d r c m.steps))) i);
            holds = R.holds-stepped a base m g.size g.holds d r c v e;
            index_is = i;
          }

  -- a free step taken out
  good-taken-out : (i : ℕ) → i < count m.steps → free m.steps i ≡ true → Good a base (taken_out a i m)
  good-taken-out i h f =
      let k = g.keeping in
      let b = (entered k i h).stand in
      let x = index-taken-out a m g.index_is i h b.right b.low (omega (arith, k.steps, k.most))
      ∙ ap (λ n. index_of a.width a.rows (marks (steps_without i m.steps) n)) (sym (count-taken-out i m.steps (omega (arith, k.steps)))) in
      record {
        size = g.size ∙ sym (length-add_on (gain (spots a.stride (word m.steps i 2) (word m.steps i 3)) (item (losses (levels_at m.levels i))) 16) m.plane);
        keeping = with-index (length (taken_out a i m).index) (keeping-taken-out a m.steps m.levels (length m.index) i k h)
            (index-long a (marks (steps_without i m.steps) (count (steps_without i m.steps))) x);
        holds = R.holds-taken-out a base m g.size g.holds k i h f;
        index_is = x;
      }

  pub good-undo : Good a base (C.undo_of a m).1
  unfolding C.undo_of
  good-undo = by_answer (Good a base) (undo_verdict a m) m (taken_out a (count m.steps - 1) m) g taken
    where
      taken : (undo_verdict a m).number ≡ 0 → Good a base (taken_out a (count m.steps - 1) m)
      taken e =
          let u = undoing a.stride m.plane (entry_at m.steps m.levels (count m.steps - 1)) in
          let rest = unless (ltb 0 (count m.steps)) (refused 13 0 0) u in
          let t = passed (ltb 0 (count m.steps)) 12 0 0 u (ap (λ (x : Answer). x.number) (sym (R.kept-make g.keeping rest)) ∙ e) in
          let some = ltb-true 0 (count m.steps) t.0 in
          good-taken-out (count m.steps - 1) (omega arith) (R.newest-free a base m g.size g.holds g.keeping some)

  pub good-withdraw : (q : ℕ) → Good a base (C.withdraw_of a q m).1
  unfolding C.withdraw_of
  good-withdraw q = by_answer (Good a base) (withdraw_verdict a q m) m (taken_out a (spot_of m.steps q) m) g taken
    where
      taken : (withdraw_verdict a q m).number ≡ 0 → Good a base (taken_out a (spot_of m.steps q) m)
      taken e =
          let o = R.withdraw-only a base m g.size g.holds g.keeping q e in
          let some = o.0 in
          let i = spot_of m.steps q in
          let h : i < count m.steps = omega (arith, last-most (λ k. eqb (number_at m.steps k) q) (count m.steps)) in
          good-taken-out i h (free-make m.steps i h o.1)

-- demand 3 over the remaining steps: undoing them, newest first, is never refused and ends at the plane of the history's beginning
pub taken-undoes : {p r : List ℤ} {ts : List Step} → Replay S.step_of p ts r → Undoes S.undo_of r ts p
taken-undoes start = none
taken-undoes (more {q = q} {a = s} t e) = next (ap (λ (x : Answer × List ℤ). S.undo_of x.1 s) (sym e) ∙ undo-exact q s (ap (λ (x : Answer × List ℤ). x.0.number) e)) (taken-undoes t)

-- the empty history, with its index all 0, on any plane
pub good-empty : (a : Area) (m : Lent) → a.size ≡ length m.plane → shaped a ≡ true → length m.steps ≡ 16385 → length m.levels ≡ 65536 → count m.steps ≡ 0
    → m.index ≡ tab (across a.rows * across a.width) (λ _. 0) → Good a m.plane m
unfolding last_touch
good-empty a m z h s l n x =
    let i = x ∙ ap (λ k. index_of a.width a.rows (marks m.steps k)) (sym n) in
    record {
      size = z;
      keeping = record {
        shape = h;
        steps = s;
        levels = l;
        cells = index-long a (marks m.steps (count m.steps)) i;
        most = omega (arith, n);
        each = λ j u. absurd (omega (arith, n));
      };
      holds = R.holds-empty a m n;
      index_is = i;
    }
