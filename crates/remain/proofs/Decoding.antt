-- The list of remaining steps after one is put at the end, and after one is taken out. Assumes nothing.
--     marks-same          lists that agree on the first n steps
--     added-marks         one step more
--     touch-without       the last touch of a cell that the step taken out shares no sample with
use mathlib.Core.Path.{◌≡◌, refl, sym, ap, ◌∙◌}
use mathlib.Core.Bool.{false, cond, ◌&&◌}
use mathlib.Core.List.{List, ◌∷◌}
use Prim.Native.Nat.{ℕ, zero, suc, ◌+◌, ◌*◌, ◌-◌, ◌≤◌, ◌<◌}
use native.Mathlib.Numerals.{add-one}
use native.Mathlib.Omega.{arith}
use borrow.Author.Tests.{le-leb, lt-leb, lt-ltb}
use lib.Dec.{leb, ltb, lit≤}
use lib.ListN.{length, get_or, set, length-set}
use lib.Seq.{get_or-set_same, get_or-set_other}
use Rattle.whole.proofs.Fill.{tab-at}
use Rattle.remain.specs.Remaining.{mark, count, number_at, mark_at, marks, number_before}
use Rattle.remain.specs.Touch.{touches, last_touch}
use Rattle.remain.specs.Without.{slid, steps_without}
use Rattle.remain.specs.Remaining.{added_to}

pub marks-same : (s s' : List ℕ) (n : ℕ) → ((j : ℕ) → j < n → mark_at s' j ≡ mark_at s j) → marks s' n ≡ marks s n
marks-same s s' zero h = refl
marks-same s s' (suc n) h = λ i. h n (omega arith) i ∷ marks-same s s' n (λ j l. h j (omega arith)) i

-- the four numbers of step j, by their places
mark-by : (s s' : List ℕ) (j j' : ℕ) → get_or s' (4 * j + 1) 0 ≡ get_or s (4 * j' + 1) 0 → ((k : ℕ) → 1 ≤ k → k < 4 → get_or s' (4 * j + 1 + k) 0 ≡ get_or s (4 * j' + 1 + k) 0) → mark_at s' j ≡ mark_at s j'
mark-by s s' j j' e h = λ i. mark (e i) (h 1 (lit≤ tt) (lit≤ tt) i) (h 2 (lit≤ tt) (lit≤ tt) i) (h 3 (lit≤ tt) (lit≤ tt) i)

module _ (d r c : ℕ) (s : List ℕ) (fit : 4 * count s + 5 ≤ length s) where
  abbrev q : ℕ
  q = number_before s (count s) + 1

  -- the lists on the way
  abbrev s1 : List ℕ
  s1 = set s (4 * count s + 1) q

  abbrev s2 : List ℕ
  s2 = set s1 (4 * count s + 1 + 1) d

  abbrev s3 : List ℕ
  s3 = set s2 (4 * count s + 1 + 2) r

  abbrev s4 : List ℕ
  s4 = set s3 (4 * count s + 1 + 3) c

  -- a place that is none of those written
  other : (p : ℕ) → 0 < p → p < 4 * count s + 1 → get_or (added_to d r c s) p 0 ≡ get_or s p 0
  other p h l =
      get_or-set_other s4 0 p (count s + 1) 0 (λ w. absurd (omega arith)) ∙ get_or-set_other s3 (4 * count s + 1 + 3) p c 0 (λ w. absurd (omega arith))
      ∙ get_or-set_other s2 (4 * count s + 1 + 2) p r 0 (λ w. absurd (omega arith)) ∙ get_or-set_other s1 (4 * count s + 1 + 1) p d 0 (λ w. absurd (omega arith))
      ∙ get_or-set_other s (4 * count s + 1) p q 0 (λ w. absurd (omega arith))

  pub old-mark : (j : ℕ) → j < count s → mark_at (added_to d r c s) j ≡ mark_at s j
  old-mark j h = mark-by s (added_to d r c s) j j (other (4 * j + 1) (omega arith) (omega arith)) (λ k a b. other (4 * j + 1 + k) (omega arith) (omega arith))

  pub new-mark : mark_at (added_to d r c s) (count s) ≡ mark q d r c
  new-mark = λ i. mark (e0 i) (e1 i) (e2 i) (e3 i)
    where
      top : (p : ℕ) → 0 < p → get_or (added_to d r c s) p 0 ≡ get_or s4 p 0
      top p h = get_or-set_other s4 0 p (count s + 1) 0 (λ w. absurd (omega arith))

      e3 : get_or (added_to d r c s) (4 * count s + 1 + 3) 0 ≡ c
      e3 = top (4 * count s + 1 + 3) (omega arith) ∙ get_or-set_same s3 (4 * count s + 1 + 3) c 0 (simp length-set (omega arith))

      e2 : get_or (added_to d r c s) (4 * count s + 1 + 2) 0 ≡ r
      e2 =
          top (4 * count s + 1 + 2) (omega arith) ∙ get_or-set_other s3 (4 * count s + 1 + 3) (4 * count s + 1 + 2) c 0 (λ w. absurd (omega arith))
          ∙ get_or-set_same s2 (4 * count s + 1 + 2) r 0 (simp length-set (omega arith))

      e1 : get_or (added_to d r c s) (4 * count s + 1 + 1) 0 ≡ d
      e1 =
          top (4 * count s + 1 + 1) (omega arith) ∙ get_or-set_other s3 (4 * count s + 1 + 3) (4 * count s + 1 + 1) c 0 (λ w. absurd (omega arith))
          ∙ get_or-set_other s2 (4 * count s + 1 + 2) (4 * count s + 1 + 1) r 0 (λ w. absurd (omega arith)) ∙ get_or-set_same s1 (4 * count s + 1 + 1) d 0 (simp length-set (omega arith))

      e0 : get_or (added_to d r c s) (4 * count s + 1) 0 ≡ q
      e0 =
          top (4 * count s + 1) (omega arith) ∙ get_or-set_other s3 (4 * count s + 1 + 3) (4 * count s + 1) c 0 (λ w. absurd (omega arith))
          ∙ get_or-set_other s2 (4 * count s + 1 + 2) (4 * count s + 1) r 0 (λ w. absurd (omega arith)) ∙ get_or-set_other s1 (4 * count s + 1 + 1) (4 * count s + 1) d 0 (λ w. absurd (omega arith))
          ∙ get_or-set_same s (4 * count s + 1) q 0 (omega arith)

  pub added-marks : marks (added_to d r c s) (count s + 1) ≡ mark q d r c ∷ marks s (count s)
  added-marks = ap (marks (added_to d r c s)) (add-one (count s)) ∙ (λ i. new-mark i ∷ marks-same s (added_to d r c s) (count s) old-mark i)

-- ---- a step taken out
module _ (s : List ℕ) (i : ℕ) (h : i < count s) (fit : 4 * count s + 1 ≤ length s) where
  abbrev s' : List ℕ
  s' = steps_without i s

  place : (p : ℕ) → 0 < p → p < length s → get_or s' p 0 ≡ cond (leb (4 * i + 1) p && ltb p (4 * (count s - 1) + 1)) (get_or s (p + 4) 0) (get_or s p 0)
  unfolding slid
  place p a b =
      get_or-set_other (slid 0 (4 * i + 1) (4 * (count s - 1) + 1) 4 s) 0 p (count s - 1) 0 (λ w. absurd (omega arith))
      ∙ tab-at 0 (length s) (λ j. cond (leb (4 * i + 1) j && ltb j (4 * (count s - 1) + 1)) (get_or s (j + 4) 0) (get_or s j 0)) p b

  pub earlier : (j : ℕ) → j < i → mark_at s' j ≡ mark_at s j
  earlier j l = mark-by s s' j j (low (4 * j + 1) (omega arith) (omega arith)) (λ k a b. low (4 * j + 1 + k) (omega arith) (omega arith))
    where
      low : (p : ℕ) → 0 < p → p < 4 * i + 1 → get_or s' p 0 ≡ get_or s p 0
      low p a b = place p a (omega arith) ∙ ap (λ t. cond (t && ltb p (4 * (count s - 1) + 1)) (get_or s (p + 4) 0) (get_or s p 0)) (lt-leb (4 * i + 1) p b)

  pub later : (j : ℕ) → i ≤ j → j + 1 < count s → mark_at s' j ≡ mark_at s (j + 1)
  later j l m = mark-by s s' j (j + 1) (up (4 * j + 1) (omega arith) (omega arith) ∙ ap (λ p. get_or s p 0) (first j))
      (λ k a b. up (4 * j + 1 + k) (omega arith) (omega arith) ∙ ap (λ p. get_or s p 0) (then j k))
    where
      first : (j : ℕ) → 4 * j + 1 + 4 ≡ 4 * (j + 1) + 1
      first j = omega arith

      then : (j k : ℕ) → 4 * j + 1 + k + 4 ≡ 4 * (j + 1) + 1 + k
      then j k = omega arith

      up : (p : ℕ) → 4 * i + 1 ≤ p → p < 4 * (count s - 1) + 1 → get_or s' p 0 ≡ get_or s (p + 4) 0
      up p a b =
          place p (omega arith) (omega arith)
          ∙ (λ t. cond (le-leb (4 * i + 1) p a t && lt-ltb p (4 * (count s - 1) + 1) b t) (get_or s (p + 4) 0) (get_or s p 0))

  -- a cell that step i does not touch
  module _ (y x : ℕ) (away : touches y x (mark_at s i) ≡ false) where
    from : (k : ℕ) → i + k < count s → last_touch y x (marks s' (i + k)) ≡ last_touch y x (marks s (suc (i + k)))
    unfolding last_touch
    from zero l =
        let z : i + 0 ≡ i = omega arith in
        ap (λ m. last_touch y x (marks s' m)) z ∙ ap (last_touch y x) (marks-same s s' i earlier)
        ∙ sym (ap (λ m. last_touch y x (marks s (suc m))) z ∙ ap (λ b. cond b (number_at s i) (last_touch y x (marks s i))) away)
    from (suc k) l =
        let z : i + suc k ≡ suc (i + k) = omega arith in
        let u : mark_at s' (i + k) ≡ mark_at s (suc (i + k)) = later (i + k) (omega arith) (omega arith) ∙ ap (mark_at s) (add-one (i + k)) in
        ap (λ m. last_touch y x (marks s' m)) z
        ∙ (λ t. cond (touches y x (u t)) (u t).number (from k (omega arith) t))
        ∙ sym (ap (λ m. last_touch y x (marks s (suc m))) z)

    pub touch-without : last_touch y x (marks s' (count s - 1)) ≡ last_touch y x (marks s (count s))
    touch-without =
        let a : i + (count s - 1 - i) ≡ count s - 1 = omega arith in
        let b : suc (count s - 1) ≡ count s = omega arith in
        ap (λ m. last_touch y x (marks s' m)) (sym a) ∙ from (count s - 1 - i) (omega arith) ∙ ap (λ m. last_touch y x (marks s (suc m))) a ∙ ap (λ m. last_touch y x (marks s m)) b
