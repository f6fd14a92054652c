-- A fold keeps a history good, taken or refused. Assumes nothing.
--     folded-added       the folded steps are put one after the other, as steps are
--     pass-sound         each of them is in range
--     keeping-folded     so the history stays in range; and the list that is read back is the folded steps, numbered from 1
--     good-fold          a history that calls have led to, folded
use mathlib.Core.Path.{◌≡◌, refl, sym, ap, ◌∙◌, subst}
use mathlib.Core.Bool.{Bool, true, false, cond, ◌&&◌}
use mathlib.Core.List.{List, [], ◌∷◌}
use Prim.Native.Nat.{ℕ, zero, suc, ◌+◌, ◌*◌, ◌≤◌, ◌<◌, suc-le-suc}
use native.Mathlib.Nat as N
use native.Mathlib.Numerals.{add-one}
use native.Mathlib.Omega.{arith}
use borrow.Author.Tests.{le-leb, lt-ltb}
use lib.Dec.{leb, ltb, lit≤}
use lib.IntN.{ℤ, pos, neg_ℤ, ◌+ℤ◌}
use lib.ListN.{length, set, length-set}
use lib.Seq.{get_or-set_same, get_or-set_other, set-set, set_comm}
use Rattle.whole.specs.Sums.{item}
use Rattle.answers.specs.declared.Answer.{Answer}
use Rattle.answers.specs.Answers.{done, refused, unless}
use Rattle.answers.proofs.Verdicts.{passed}
use Rattle.whole.proofs.Fill.{within-tab}
use Rattle.whole.proofs.Range.{size-in-range}
use Rattle.whole.proofs.Search.{seek-all}
use Rattle.whole.proofs.Tests.{both, and-true}
use Rattle.wht.specs.Wht.{fwht, iwht}
use Rattle.wht.specs.Calls.{Sixteen, number_ok}
use Rattle.wht.proofs.Lists.{levels-bound}
use Rattle.lossless.specs.Step as S
use Rattle.remain.specs.Remaining.{mark, Entry, count, number_at, word, levels_at, entries, marks, number_before, put_mark, put_on}
use Rattle.remain.specs.Touch.{index_of}
use Rattle.remain.specs.Bounds.{Lying}
use Rattle.keeping.specs.Range.{Area, within, stands, first_off, mark_ok}
use Rattle.history.specs.Calls.{Lent, lent}
use Rattle.remain.specs.Remaining.{added_to}
use Rattle.keeping.specs.Bounds.{Keeping}
use Rattle.keeping.specs.Steps.{step_in, steps_in}
use Rattle.lossless.specs.Replay.{Replay}
use Rattle.keeping.proofs.Facts.{within-is, entered, lying-is}
use Rattle.folding.specs.Fold.{Perhaps, is_zero, summed, sizes, joins, join_fair, steps_put, steps_folded, levels_folded, Folded, three_of, fold_of}
use Rattle.folding.specs.Pass.{placed, one_pass, pass_fair, fold_verdict, pass_of}
use Rattle.reached.proofs.Entries.{entries-added}
use Rattle.folding.proofs.FoldCall.{count-folded}
use Rattle.folding.proofs.OnePass.{Paired, here, past, Joined, alone, paired, joined, paired-length}
use Rattle.folding.proofs.Replayed.{pass-taken}
use Rattle.folding.proofs.RuleFair.{pass-is-fold}
use Rattle.folding.proofs.Turns.{sum-small}
use Rattle.folding.proofs.Writes.{steps-long}
use Rattle.reached.specs.Holds.{Good}
use Rattle.reached.proofs.Always.{by_answer, with-index, index-long}
use Rattle.reached.proofs.Calls.{kept-make}
use Rattle.reached.proofs.Keeps.{keeping_added}

-- ---- the folded steps, as they are read back
number-last : (us : List Entry) (s : List ℕ) → 4 * length us + 1 ≤ length s → number_before (steps_folded us s) (length us) ≡ length us
number-last [] s h = refl
number-last (e ∷ ts) s h =
    let b = 4 * length ts + 1 in
    let s1 = set (steps_put ts s) b (length ts + 1) in
    let s2 = set s1 (b + 1) e.mark.depth in
    let s3 = set s2 (b + 2) e.mark.row in
    let s4 = set s3 (b + 3) e.mark.column in
    get_or-set_other s4 0 b (suc (length ts)) 0 (λ z. absurd (omega arith)) ∙ get_or-set_other s3 (b + 3) b e.mark.column 0 (λ z. absurd (omega arith))
    ∙ get_or-set_other s2 (b + 2) b e.mark.row 0 (λ z. absurd (omega arith)) ∙ get_or-set_other s1 (b + 1) b e.mark.depth 0 (λ z. absurd (omega arith))
    ∙ get_or-set_same (steps_put ts s) b (length ts + 1) 0 (omega (arith, steps-long ts s)) ∙ add-one (length ts)

pub folded-added : (e : Entry) (ts : List Entry) (s : List ℕ) → 4 * length ts + 5 ≤ length s → steps_folded (e ∷ ts) s ≡ added_to e.mark.depth e.mark.row e.mark.column (steps_folded ts s)
folded-added e ts s h =
    let n = length ts in
    let b = 4 * n + 1 in
    let d = e.mark.depth in
    let r = e.mark.row in
    let c = e.mark.column in
    let t = steps_put ts s in
    let c0 = count-folded ts s (omega arith) in
    let q = ap (number_before (steps_folded ts s)) c0 ∙ number-last ts s (omega arith) in
    sym ((λ i. set (put_mark (c0 i) (mark (q i + 1) d r c) (set t 0 n)) 0 (c0 i + 1))
    ∙ ap (λ (x : List ℕ). set (set (set (set x (b + 1) d) (b + 2) r) (b + 3) c) 0 (n + 1)) (set_comm t 0 b n (n + 1) (λ z. absurd (omega arith)))
    ∙ ap (λ (x : List ℕ). set (set (set x (b + 2) r) (b + 3) c) 0 (n + 1)) (set_comm (set t b (n + 1)) 0 (b + 1) n d (λ z. absurd (omega arith)))
    ∙ ap (λ (x : List ℕ). set (set x (b + 3) c) 0 (n + 1)) (set_comm (set (set t b (n + 1)) (b + 1) d) 0 (b + 2) n r (λ z. absurd (omega arith)))
    ∙ ap (λ (x : List ℕ). set x 0 (n + 1)) (set_comm (set (set (set t b (n + 1)) (b + 1) d) (b + 2) r) 0 (b + 3) n c (λ z. absurd (omega arith)))
    ∙ set-set (set (set (set (set t b (n + 1)) (b + 1) d) (b + 2) r) (b + 3) c) 0 n (n + 1)
    ∙ ap (set (put_mark n (mark (n + 1) d r c) t) 0) (add-one n))

abbrev pub numbered : List Entry → List Entry
numbered [] = []
numbered (e ∷ ts) = record { mark = mark (length ts + 1) e.mark.depth e.mark.row e.mark.column; levels = e.levels } ∷ numbered ts

numbered-steps : (extent : Area) (us : List Entry) → steps_in extent (numbered us) ≡ steps_in extent us
numbered-steps extent [] = refl
numbered-steps extent (e ∷ ts) = ap (λ t. step_in extent e ∷ t) (numbered-steps extent ts)

-- ---- steps in range
pub record Sound (a : Area) (e : Entry) : Type 0 where
  pub deep : within 8 12 e.mark.depth ≡ true
  pub stand : stands a e.mark.row e.mark.column ≡ true
  pub levels : Sixteen 262144 e.levels

pub data Sounds (a : Area) : List Entry → Type 0 where
  nil : Sounds a []
  cons : {e : Entry} {ts : List Entry} → Sound a e → Sounds a ts → Sounds a (e ∷ ts)

module _ {a : Area} {s : List ℕ} {l : List ℤ} {k : ℕ} (q : Keeping a s l k) where
  pub entries-sound : (n : ℕ) → n ≤ count s → Sounds a (entries s l n)
  entries-sound zero h = nil
  entries-sound (suc n) h =
      let t = both (mark_ok a s n) (leb 16 (first_off (levels_at l n))) (q.each n h) in
      let u = both (within 8 12 (word s n 1)) (stands a (word s n 2) (word s n 3) && ltb (number_before s n) (number_at s n)) t.0 in
      let v = both (stands a (word s n 2) (word s n 3)) (ltb (number_before s n) (number_at s n)) u.1 in
      cons (record { deep = u.0; stand = v.0; levels = (entered q n h).sixteen }) (entries-sound n (less h))
    where
      less : {n m : ℕ} → suc n ≤ m → n ≤ m
      less h = omega arith

-- the levels of a sum in range are in range
sum-levels : (d : ℕ) → d ≤ 12 → (v u : List ℤ) → sizes d (summed v u) ≡ true → Sixteen 262144 (fwht (summed v u))
sum-levels d h v u e =
    let b = levels-bound {l = summed v u} (record {
      count = refl;
      small = within-tab 65535 16 (λ k. item (iwht v) k +ℤ item (iwht u) k) (λ k i. N.le_trans (sum-small d h (λ k. item (iwht v) k +ℤ item (iwht u) k) e k i) (lit≤ tt));
    }) in
    record { count = b.count; small = λ k i. N.le_trans (b.small k i) (lit≤ tt) }

paired-sound : {a : Area} {e : Entry} {ts us : List Entry} → Paired e ts us → Sound a e → Sounds a ts → join_fair e ts ≡ true → Sounds a us
unfolding join_fair
paired-sound {a} {e} (here {f} {ts} x y) p (cons q r) h = go (is_zero (summed f.levels e.levels)) (rw (x, y) at h)
  where
    go : (b : Bool) → sizes e.mark.depth (summed f.levels e.levels) ≡ true → Sounds a (cond b ts (record { mark = f.mark; levels = fwht (summed f.levels e.levels) } ∷ ts))
    go true z = r
    go false z = cons (record { deep = q.deep; stand = q.stand; levels = sum-levels e.mark.depth (within-is 8 12 e.mark.depth p.deep).1 f.levels e.levels z }) r
paired-sound (past x y) p (cons q r) h = cons q (paired-sound y p r (rw x at h))

pub pass-sound : {a : Area} {ts : List Entry} → Sounds a ts → pass_fair ts ≡ true → Sounds a (one_pass ts)
unfolding pass_fair one_pass
pass-sound nil h = nil
pass-sound {a} (cons {e} {ts} p r) h =
    let t = both (pass_fair ts) (join_fair e (one_pass ts)) h in
    go (joined e (one_pass ts)) (pass-sound r t.0) t.1
  where
    go : Joined e (one_pass ts) → Sounds a (one_pass ts) → join_fair e (one_pass ts) ≡ true → Sounds a (placed e (one_pass ts) (joins e (one_pass ts)))
    go (alone x n) u f = subst (λ (o : Perhaps (List Entry)). Sounds a (placed e (one_pass ts) o)) (sym n) (cons p u)
    go (paired us x n) u f = subst (λ (o : Perhaps (List Entry)). Sounds a (placed e (one_pass ts) o)) (sym n) (paired-sound x p u f)

pub pass-most : (ts : List Entry) → length (one_pass ts) ≤ length ts
unfolding one_pass
pass-most [] = N.le_refl 0
pass-most (e ∷ ts) = go (joined e (one_pass ts)) (pass-most ts)
  where
    less : {i j k : ℕ} → i ≤ j → j ≤ k → i ≤ suc k
    less a b = omega arith

    go : Joined e (one_pass ts) → length (one_pass ts) ≤ length ts → length (placed e (one_pass ts) (joins e (one_pass ts))) ≤ suc (length ts)
    go (alone x n) h = subst (λ (o : Perhaps (List Entry)). length (placed e (one_pass ts) o) ≤ suc (length ts)) (sym n) (suc-le-suc h)
    go (paired us x n) h = subst (λ (o : Perhaps (List Entry)). length (placed e (one_pass ts) o) ≤ suc (length ts)) (sym n) (less (paired-length x) h)

pub entries-length : (s : List ℕ) (l : List ℤ) (n : ℕ) → length (entries s l n) ≡ n
entries-length s l zero = refl
entries-length s l (suc n) = ap suc (entries-length s l n)

-- sixteen numbers in range pass the test
all_in : (v : List ℤ) → Sixteen 262144 v → leb 16 (first_off v) ≡ true
all_in v h =
    le-leb 16 (first_off v) (omega (
      arith,
      seek-all (number_ok (neg_ℤ (pos 262144)) (pos 262144) v) 0 16
          (λ k i. size-in-range 262143 (item v k) (h.small k (subst (λ (n : ℕ). k < n) (sym h.count) i))),
    ))

-- ---- a history in range
module _ {a : Area} {s : List ℕ} {l : List ℤ} {k : ℕ} (q : Keeping a s l k) where
  pub keeping-folded : {us : List Entry} → Sounds a us → length us ≤ 4096
      → Keeping a (steps_folded us s) (levels_folded us l) k × (entries (steps_folded us s) (levels_folded us l) (length us) ≡ numbered us)
  keeping-folded nil h =
      let n = count-folded [] s (omega (arith, q.steps)) in
      (record { shape = q.shape; steps = length-set s 0 0 ∙ q.steps; levels = q.levels; cells = q.cells; most = omega (arith, n); each = λ j i. absurd (omega (arith, n)) }, refl)
  keeping-folded (cons {e} {ts} p r) h =
      let rec = keeping-folded r (omega arith) in
      let d = e.mark.depth in
      let y = e.mark.row in
      let x = e.mark.column in
      let v = e.levels in
      let S = steps_folded ts s in
      let L = levels_folded ts l in
      let n : count S ≡ length ts = count-folded ts s (omega (arith, q.steps)) in
      let z = folded-added e ts s (omega (arith, q.steps)) in
      let m : put_on (16 * count S) v 16 L ≡ levels_folded (e ∷ ts) l = ap (λ (i : ℕ). put_on (16 * i) v 16 L) n in
      let b = number_before S (count S) in
      let up : b < b + 1 = omega arith in
      let less : count S < 4096 = omega arith in
      let ok = and-true (and-true p.deep (and-true p.stand (lt-ltb b (b + 1) up))) (all_in v p.levels) in
      let w = keeping_added a d y x v S L k ok rec.0 p.levels.count less in
      let f = entries-added d y x S L v (omega (arith, rec.0.steps)) p.levels.count (omega (arith, rec.0.levels)) in
      let g : number_before S (count S) ≡ length ts = ap (number_before S) n ∙ number-last ts s (omega (arith, q.steps)) in (
        subst (λ (t : List ℕ × List ℤ). Keeping a t.0 t.1 k) (λ i. (sym z i, m i)) w,
        (λ i. entries (z i) (sym m i) ((sym (add-one (length ts)) ∙ ap (λ (j : ℕ). j + 1) (sym n)) i)) ∙ f
            ∙ (λ i. record { mark = mark (g i + 1) d y x; levels = v } ∷ (ap (entries S L) n ∙ rec.1) i),
      )

-- so its blocks lie in the visible area
pub fold-lying : {a : Area} {s : List ℕ} {l : List ℤ} {k : ℕ} → Keeping a s l k → pass_fair (entries s l (count s)) ≡ true
    → Lying (steps_folded (one_pass (entries s l (count s))) s) a.width a.rows (count (steps_folded (one_pass (entries s l (count s))) s))
fold-lying {a} {s} {l} q f =
    let few = N.le_trans (pass-most (entries s l (count s))) (N.le_trans (N.le_of_eq (entries-length s l (count s))) q.most) in
    lying-is (keeping-folded q (pass-sound (entries-sound q (count s) (N.le_refl (count s))) f) few).0

-- ---- the call
module _ (a : Area) (base : List ℤ) (m : Lent) (g : Good a base m) where
  -- the history with the fold's three slices
  abbrev pub with : Folded → Lent
  with f = lent m.plane f.steps f.levels f.index

  abbrev us : List Entry
  us = one_pass (entries m.steps m.levels (count m.steps))

  good-work : (fold_verdict a m.steps m.levels (length m.index)).number ≡ 0
      → Good a base (with (three_of (steps_folded us m.steps) (levels_folded us m.levels) (index_of a.width a.rows (marks (steps_folded us m.steps) (length us)))))
  good-work e =
      let k = g.keeping in
      let s = m.steps in
      let l = m.levels in
      let f = pass_fair (entries s l (count s)) in
      let t = passed f 11 0 0 done (ap (λ (x : Answer). x.number) (sym (kept-make k (unless f (refused 12 0 0) done))) ∙ e) in
      let few : length us ≤ 4096 = N.le_trans (pass-most (entries s l (count s))) (N.le_trans (N.le_of_eq (entries-length s l (count s))) k.most) in
      let w = keeping-folded k (pass-sound (entries-sound k (count s) (N.le_refl (count s))) t.0) few in
      let n = count-folded us s (omega (arith, k.steps)) in
      let i : index_of a.width a.rows (marks (steps_folded us s) (length us)) ≡ index_of a.width a.rows (marks (steps_folded us s) (count (steps_folded us s))) =
      ap (λ j. index_of a.width a.rows (marks (steps_folded us s) j)) (sym n) in
      record {
        size = g.size;
        keeping = with-index (length (index_of a.width a.rows (marks (steps_folded us s) (length us)))) w.0 (index-long a (marks (steps_folded us s) (length us)) refl);
        holds = subst (λ (ts : List S.Step). Replay S.step_of base ts m.plane)
            (sym (ap (steps_in a) (ap (entries (steps_folded us s) (levels_folded us l)) n ∙ w.1) ∙ numbered-steps a us))
            (pass-taken a base (entries s l (count s)) m.plane g.holds);
        index_is = i;
      }

  pub good-fold : Good a base (with (fold_of a m.steps m.levels m.index).1)
  unfolding pass_of
  good-fold =
      subst (λ (r : Answer × Folded). Good a base (with r.1)) (pass-is-fold a m.steps m.levels m.index)
      (by_answer (λ (f : Folded). Good a base (with f)) (fold_verdict a m.steps m.levels (length m.index)) (three_of m.steps m.levels m.index)
      (three_of (steps_folded us m.steps) (levels_folded us m.levels) (index_of a.width a.rows (marks (steps_folded us m.steps) (length us)))) g good-work)
