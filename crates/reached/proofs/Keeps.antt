-- A history in range stays in range. Assumes nothing.
--     ok_by                   the test of one step, by its mark, the number before it, and its levels
--     keeping_added          one more step whose tests pass; keeping-stepped by a step's verdict
--     keeping-taken-out      one less
use mathlib.Core.Path.{◌≡◌, refl, sym, ap, ◌∙◌}
use mathlib.Core.Logic.{◌⊎◌, inl, inr}
use mathlib.Core.Bool.{Bool, true, ◌&&◌}
use mathlib.Core.List.{List}
use Prim.Native.Nat.{ℕ, zero, suc, ◌+◌, ◌*◌, ◌-◌, ◌≤◌, ◌<◌}
use native.Mathlib.Nat as N
use native.Mathlib.Decide.{ℕ_discrete}
use native.Mathlib.Numerals.{add-one}
use native.Mathlib.Omega.{arith}
use borrow.Author.Tests.{le-leb, lt-ltb, ltb-true}
use lib.Dec.{leb, ltb, eqb}
use lib.IntN.{ℤ}
use lib.ListN.{length, length-set}
use Rattle.answers.specs.Answers.{done, refused, unless, searched}
use Rattle.answers.proofs.Verdicts.{passed, search-passed}
use Rattle.whole.proofs.Cells.{under}
use Rattle.whole.proofs.Fill.{length-tab}
use Rattle.whole.proofs.Tests.{both, and-true}
use Rattle.remain.specs.Remaining.{Mark, mark, count, mark_at, levels_at, number_before, put_on}
use Rattle.remain.specs.Without.{slid, steps_without, levels_without}
use Rattle.keeping.specs.Range.{Area, within, shaped, stands, sound, first_off, entry_ok, front_of}
use Rattle.remain.specs.Remaining.{added_to}
use Rattle.keeping.specs.Bounds.{Keeping}
use Rattle.remain.proofs.Decoding as D
use Rattle.keeping.proofs.Facts.{entered}
use Rattle.history.proofs.Kept.{count-stepped, count-taken-out}
use Rattle.reached.proofs.Entries.{levels-new, levels-old, whole, long, levels-earlier, levels-later}

abbrev pub ok_by : Area → ℕ → Mark → List ℤ → Bool
ok_by a q m v = (within 8 12 m.depth && (stands a m.row m.column && ltb q m.number)) && leb 16 (first_off v)

-- a smaller number before it does as well
less-before : (a : Area) (q q' : ℕ) (m : Mark) (v : List ℤ) → q' ≤ q → ok_by a q m v ≡ true → ok_by a q' m v ≡ true
less-before a q q' m v h e =
    let t = both (within 8 12 m.depth && (stands a m.row m.column && ltb q m.number)) (leb 16 (first_off v)) e in
    let u = both (within 8 12 m.depth) (stands a m.row m.column && ltb q m.number) t.0 in
    let w = both (stands a m.row m.column) (ltb q m.number) u.1 in
    and-true (and-true u.0 (and-true w.0 (lt-ltb q' m.number (N.lt_of_le_of_lt h (ltb-true q m.number w.1))))) t.1

-- ---- one more
module _ (a : Area) (d r c : ℕ) (v : List ℤ) (s : List ℕ) (l : List ℤ) (k : ℕ)
    (ok : ok_by a (number_before s (count s)) (mark (number_before s (count s) + 1) d r c) v ≡ true) (q : Keeping a s l k) (long16 : length v ≡ 16) (less : count s < 4096) where
  fit : 4 * count s + 5 ≤ length s
  fit = omega (arith, q.steps)

  room : 16 * count s + 16 ≤ length l
  room = omega (arith, q.levels)

  abbrev s' : List ℕ
  s' = added_to d r c s

  abbrev l' : List ℤ
  l' = put_on (16 * count s) v 16 l

  before_same : (j : ℕ) → j ≤ count s → number_before s' j ≡ number_before s j
  before_same zero h = refl
  before_same (suc j) h = ap (λ (m : Mark). m.number) (D.old-mark d r c s fit j h)

  each : (j : ℕ) → j < count s + 1 → Dec (j ≡ count s) → entry_ok a s' l' j ≡ true
  each j h (yes z) =
      ap (entry_ok a s' l') z
      ∙ (λ i. ok_by a (before_same (count s) (N.le_refl (count s)) i) (D.new-mark d r c s fit i) (levels-new (count s) l v long16 room i))
      ∙ ok
  each j h (no z) =
      let u : j < count s = below z in
      (λ i. ok_by a (before_same j (N.le_of_lt u) i) (D.old-mark d r c s fit j u i) (levels-old (count s) l v long16 room j u i)) ∙ q.each j u
    where
      below : (j ≡ count s → ⊥) → j < count s
      below f = omega arith

  pub keeping_added : Keeping a s' l' k
  keeping_added =
      let n : count s' ≡ count s + 1 = count-stepped d r c s (omega (arith, q.steps)) in
      record {
        shape = q.shape;
        steps = simp length-set q.steps;
        levels = whole (count s) l v long16 room ∙ q.levels;
        cells = q.cells;
        most = omega (arith, n);
        each = λ j h. each j (omega (arith, n)) (ℕ_discrete j (count s));
      }

-- the tests that the new step passed
new_ok : (a : Area) (d r c : ℕ) (v : List ℤ) (s : List ℕ) (l : List ℤ) (k : ℕ) → (front_of a d r c v s l k).number ≡ 0 → ok_by a (number_before s (count s)) (mark (number_before s (count s) + 1) d r c) v ≡ true
new_ok a d r c v s l k e =
    let last = searched 7 1 16 (λ k. k) (first_off v) done in
    let from12 = unless (sound a s l k) (refused 12 0 0) last in
    let from_fit = unless (stands a r c) (refused 6 2 0) from12 in
    let from6 = unless (eqb (length v) 16) (refused 6 1 0) from_fit in
    let t = passed (within 8 12 d) 0 0 0 (unless (shaped a) (refused 5 0 0) from6) e in
    let u = passed (shaped a) 4 0 0 from6 t.1 in
    let i = passed (eqb (length v) 16) 5 1 0 from_fit u.1 in
    let w = passed (stands a r c) 5 2 0 from12 i.1 in
    let x = passed (sound a s l k) 11 0 0 last w.1 in
    let y = search-passed 6 1 16 (λ k. k) (first_off v) done x.1 in
    let n = number_before s (count s) in
    let up : n < n + 1 = omega arith in
    and-true (and-true t.0 (and-true w.0 (lt-ltb n (n + 1) up))) (le-leb 16 (first_off v) y.0)

pub keeping-stepped : (a : Area) (d r c : ℕ) (v : List ℤ) (s : List ℕ) (l : List ℤ) (k : ℕ) → (front_of a d r c v s l k).number ≡ 0 → Keeping a s l k → length v ≡ 16 → count s < 4096
    → Keeping a (added_to d r c s) (put_on (16 * count s) v 16 l) k
keeping-stepped a d r c v s l k e q long16 less = keeping_added a d r c v s l k (new_ok a d r c v s l k e) q long16 less

-- ---- one less
module _ (a : Area) (s : List ℕ) (l : List ℤ) (k i : ℕ) (q : Keeping a s l k) (h : i < count s) where
  fit₁ : 4 * count s + 1 ≤ length s
  fit₁ = omega (arith, q.steps, q.most)

  room₁ : 16 * count s ≤ length l
  room₁ = omega (arith, q.levels, q.most)

  abbrev s₁ : List ℕ
  s₁ = steps_without i s

  abbrev l₁ : List ℤ
  l₁ = levels_without i (count s) l

  before-earlier : (j : ℕ) → j ≤ i → number_before s₁ j ≡ number_before s j
  before-earlier zero u = refl
  before-earlier (suc j) u = ap (λ (m : Mark). m.number) (D.earlier s i h fit₁ j u)

  before-later : (j : ℕ) → i ≤ j → j < count s → number_before s₁ j ≤ number_before s (j + 1)
  before-later j u w = go (ℕ_discrete j i)
    where
      step : (j : ℕ) → i ≤ j → j + 1 < count s → number_before s₁ (suc j) ≡ number_before s (suc (suc j))
      step j u w = ap (λ (m : Mark). m.number) (D.later s i h fit₁ j u w ∙ ap (mark_at s) (add-one j))

      past : (j : ℕ) → i < j → j < count s → number_before s₁ j ≤ number_before s (j + 1)
      past zero u w = absurd (N.not-suc-le-zero u)
      past (suc j) u w = N.le_of_eq (step j (N.le_of_suc-le-suc u) (omega arith) ∙ ap (number_before s) (sym (add-one (suc j))))

      go : Dec (j ≡ i) → number_before s₁ j ≤ number_before s (j + 1)
      go (yes z) = rw (z, before-earlier i (N.le_refl i), add-one i) (N.le_of_lt (entered q i h).rising)
      go (no z) = past j (above z) w
        where
          above : (j ≡ i → ⊥) → i < j
          above f = omega arith

  each₁ : (j : ℕ) → j < count s - 1 → ((i ≤ j) ⊎ (j < i)) → entry_ok a s₁ l₁ j ≡ true
  each₁ j w (inr u) =
      let n : j < count s = omega arith in
      (λ t. ok_by a (before-earlier j (N.le_of_lt u) t) (D.earlier s i h fit₁ j u t) (levels-earlier s l i h fit₁ room₁ j u t)) ∙ q.each j n
  each₁ j w (inl u) =
      let n : j + 1 < count s = omega arith in
      less-before a (number_before s (j + 1)) (number_before s₁ j) (mark_at s₁ j) (levels_at l₁ j) (before-later j u (omega arith))
      ((λ t. ok_by a (number_before s (j + 1)) (D.later s i h fit₁ j u n t) (levels-later s l i h fit₁ room₁ j u n t)) ∙ q.each (j + 1) n)

  pub keeping-taken-out : Keeping a s₁ l₁ k
  unfolding slid
  keeping-taken-out =
      let n : count s₁ ≡ count s - 1 = count-taken-out i s (omega (arith, q.steps)) in
      record {
        shape = q.shape;
        steps = simp (length-set, length-tab) q.steps;
        levels = long s l i h fit₁ room₁ ∙ q.levels;
        cells = q.cells;
        most = omega (arith, n, q.most);
        each = λ j w. each₁ j (omega (arith, n)) (under i j);
      }
