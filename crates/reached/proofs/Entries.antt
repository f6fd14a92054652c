-- The list of remaining steps with their levels, after one is put at the end and after one is taken out. Assumes nothing.
--     later s l i k                   the k steps after step i, newest first
--     split                           the list as those after step i, step i, and those before it
--     entries-added                   one step more
--     entries-without                 the list without step i
use mathlib.Core.Path.{◌≡◌, refl, sym, ap, ◌∙◌}
use mathlib.Core.Bool.{cond, ◌&&◌}
use mathlib.Core.List.{List, [], ◌∷◌, ◌++◌}
use Prim.Native.Nat.{ℕ, zero, suc, ◌+◌, ◌*◌, ◌-◌, ◌≤◌, ◌<◌}
use native.Mathlib.Nat as N
use native.Mathlib.Numerals.{add-one}
use native.Mathlib.Omega.{arith}
use borrow.Author.Tests.{le-leb, lt-leb, lt-ltb}
use borrow.Rule.Slice.PartMut.{put_mid, post_of, Post-is, same_len_mid}
use lib.Dec.{leb, ltb}
use lib.IntN.{ℤ, pos}
use lib.ListN.{length, get_or, take, drop}
use lib.Seq.{length-take-le, take_at, drop_at}
use Rattle.whole.proofs.Fill.{tab-at, tab-same, length-tab}
use Rattle.whole.proofs.Lent.{part-tab, part_count, mid-below, mid-above}
use Rattle.remain.specs.Remaining.{mark, Entry, count, mark_at, levels_at, entry_at, entries, number_before, put_on}
use Rattle.remain.specs.Without.{slid, steps_without, levels_without}
use Rattle.remain.specs.Remaining.{added_to}
use Rattle.remain.proofs.Decoding as D

abbrev pub later : List ℕ → List ℤ → ℕ → ℕ → List Entry
later s l i zero = []
later s l i (suc k) = entry_at s l (suc (i + k)) ∷ later s l i k

pub split : (s : List ℕ) (l : List ℤ) (i k : ℕ) → entries s l (suc (i + k)) ≡ later s l i k ++ (entry_at s l i ∷ entries s l i)
split s l i zero = let z : i + 0 ≡ i = omega arith in ap (λ m. entries s l (suc m)) z
split s l i (suc k) = let z : i + suc k ≡ suc (i + k) = omega arith in ap (λ m. entries s l (suc m)) z ∙ ap (λ t. entry_at s l (suc (i + k)) ∷ t) (split s l i k)

entry-by : (s s' : List ℕ) (l l' : List ℤ) (j j' : ℕ) → mark_at s' j ≡ mark_at s j' → levels_at l' j ≡ levels_at l j' → entry_at s' l' j ≡ entry_at s l j'
entry-by s s' l l' j j' e f = λ i. record { mark = e i; levels = f i }

pub entries-same : (s s' : List ℕ) (l l' : List ℤ) (n : ℕ) → ((j : ℕ) → j < n → entry_at s' l' j ≡ entry_at s l j) → entries s' l' n ≡ entries s l n
entries-same s s' l l' zero h = refl
entries-same s s' l l' (suc n) h = λ i. h n (omega arith) i ∷ entries-same s s' l l' n (λ j q. h j (omega arith)) i

-- ---- one more
module _ (n : ℕ) (l v : List ℤ) (long : length v ≡ 16) (fit : 16 * n + 16 ≤ length l) where
  abbrev l' : List ℤ
  l' = put_on (16 * n) v 16 l

  pub put_is : l' ≡ put_mid (16 * n) 16 l v
  put_is =
      let q : 16 * n + 16 - 16 * n ≡ 16 = omega arith in
      ap (λ t. take (16 * n) l ++ (v ++ t)) (sym (Post-is (16 * n) (16 * n + 16) l (N.le-add_right (16 * n) 16)) ∙ ap (λ k. post_of (16 * n) k l) q)

  pub levels-new : levels_at l' n ≡ v
  levels-new =
      ap (take 16) (drop_at (take (16 * n) l) (v ++ drop (16 * n + 16) l) (16 * n) (length-take-le (16 * n) l (omega arith)))
      ∙ take_at v (drop (16 * n + 16) l) 16 long

  pub whole : length l' ≡ length l
  whole = ap length put_is ∙ same_len_mid (16 * n) 16 l v (long ∙ sym (part_count l (16 * n) 16 fit))

  pub levels-old : (j : ℕ) → j < n → levels_at l' j ≡ levels_at l j
  levels-old j h =
      part-tab (pos 0) l' (16 * j) 16 (rw whole (omega arith))
      ∙ tab-same 16 (λ x. get_or l' (16 * j + x) (pos 0)) (λ x. get_or l (16 * j + x) (pos 0))
      (λ x q. ap (λ t. get_or t (16 * j + x) (pos 0)) put_is ∙ mid-below (pos 0) (16 * n) 16 l v fit long (16 * j + x) (omega arith))
      ∙ sym (part-tab (pos 0) l (16 * j) 16 (omega arith))

  pub levels-after : (j : ℕ) → n < j → 16 * j + 16 ≤ length l → levels_at l' j ≡ levels_at l j
  levels-after j h end =
      part-tab (pos 0) l' (16 * j) 16 (rw whole end)
      ∙ tab-same 16 (λ x. get_or l' (16 * j + x) (pos 0)) (λ x. get_or l (16 * j + x) (pos 0))
      (λ x q. ap (λ t. get_or t (16 * j + x) (pos 0)) put_is ∙ mid-above (pos 0) (16 * n) 16 l v fit long (16 * j + x) (omega arith))
      ∙ sym (part-tab (pos 0) l (16 * j) 16 end)

pub entries-added : (d r c : ℕ) (s : List ℕ) (l v : List ℤ) → 4 * count s + 5 ≤ length s → length v ≡ 16 → 16 * count s + 16 ≤ length l
    → entries (added_to d r c s) (put_on (16 * count s) v 16 l) (count s + 1)
    ≡ record { mark = mark (number_before s (count s) + 1) d r c; levels = v } ∷ entries s l (count s)
entries-added d r c s l v fit long room =
    ap (entries (added_to d r c s) (put_on (16 * count s) v 16 l)) (add-one (count s))
    ∙ (λ i. record { mark = D.new-mark d r c s fit i; levels = levels-new (count s) l v long room i }
    ∷ entries-same s (added_to d r c s) l (put_on (16 * count s) v 16 l) (count s)
    (λ j h. entry-by s (added_to d r c s) l (put_on (16 * count s) v 16 l) j j (D.old-mark d r c s fit j h) (levels-old (count s) l v long room j h)) i)

-- ---- one less
module _ (s : List ℕ) (l : List ℤ) (i : ℕ) (h : i < count s) (fit : 4 * count s + 1 ≤ length s) (room : 16 * count s ≤ length l) where
  abbrev m' : List ℤ
  m' = levels_without i (count s) l

  pub long : length m' ≡ length l
  unfolding slid
  long = length-tab (length l) (λ j. cond (leb (16 * i) j && ltb j (16 * (count s - 1))) (get_or l (j + 16) (pos 0)) (get_or l j (pos 0)))

  place : (p : ℕ) → p < length l → get_or m' p (pos 0) ≡ cond (leb (16 * i) p && ltb p (16 * (count s - 1))) (get_or l (p + 16) (pos 0)) (get_or l p (pos 0))
  unfolding slid
  place p b = tab-at (pos 0) (length l) (λ j. cond (leb (16 * i) j && ltb j (16 * (count s - 1))) (get_or l (j + 16) (pos 0)) (get_or l j (pos 0))) p b

  pub levels-earlier : (j : ℕ) → j < i → levels_at m' j ≡ levels_at l j
  levels-earlier j q =
      part-tab (pos 0) m' (16 * j) 16 (rw long (omega arith))
      ∙ tab-same 16 (λ x. get_or m' (16 * j + x) (pos 0)) (λ x. get_or l (16 * j + x) (pos 0)) (λ x u. low (16 * j + x) (omega arith))
      ∙ sym (part-tab (pos 0) l (16 * j) 16 (omega arith))
    where
      low : (p : ℕ) → p < 16 * i → get_or m' p (pos 0) ≡ get_or l p (pos 0)
      low p b = place p (omega arith) ∙ ap (λ t. cond (t && ltb p (16 * (count s - 1))) (get_or l (p + 16) (pos 0)) (get_or l p (pos 0))) (lt-leb (16 * i) p b)

  pub levels-later : (j : ℕ) → i ≤ j → j + 1 < count s → levels_at m' j ≡ levels_at l (j + 1)
  levels-later j q u =
      part-tab (pos 0) m' (16 * j) 16 (rw long (omega arith))
      ∙ tab-same 16 (λ x. get_or m' (16 * j + x) (pos 0)) (λ x. get_or l (16 * (j + 1) + x) (pos 0))
      (λ x w. up (16 * j + x) (omega arith) (omega arith) ∙ ap (λ p. get_or l p (pos 0)) (move j x))
      ∙ sym (part-tab (pos 0) l (16 * (j + 1)) 16 (omega arith))
    where
      move : (j x : ℕ) → 16 * j + x + 16 ≡ 16 * (j + 1) + x
      move j x = omega arith

      up : (p : ℕ) → 16 * i ≤ p → p < 16 * (count s - 1) → get_or m' p (pos 0) ≡ get_or l (p + 16) (pos 0)
      up p a b = place p (omega arith) ∙ (λ t. cond (le-leb (16 * i) p a t && lt-ltb p (16 * (count s - 1)) b t) (get_or l (p + 16) (pos 0)) (get_or l p (pos 0)))

  from : (k : ℕ) → i + k < count s → entries (steps_without i s) m' (i + k) ≡ later s l i k ++ entries s l i
  from zero q =
      let z : i + 0 ≡ i = omega arith in
      ap (entries (steps_without i s) m') z
      ∙ entries-same s (steps_without i s) l m' i (λ j w. entry-by s (steps_without i s) l m' j j (D.earlier s i h fit j w) (levels-earlier j w))
  from (suc k) q =
      let z : i + suc k ≡ suc (i + k) = omega arith in
      let u : entry_at (steps_without i s) m' (i + k) ≡ entry_at s l (suc (i + k)) =
      entry-by s (steps_without i s) l m' (i + k) (i + k + 1) (D.later s i h fit (i + k) (omega arith) (omega arith)) (levels-later (i + k) (omega arith) (omega arith)) ∙ ap (entry_at s l) (add-one (i + k)) in
      ap (entries (steps_without i s) m') z ∙ (λ t. u t ∷ from k (omega arith) t)

  -- the steps after step i
  abbrev pub after : List Entry
  after = later s l i (count s - 1 - i)

  pub entries-without : entries (steps_without i s) m' (count s - 1) ≡ after ++ entries s l i
  entries-without =
      let a : i + (count s - 1 - i) ≡ count s - 1 = omega arith in
      ap (entries (steps_without i s) m') (sym a) ∙ from (count s - 1 - i) (omega arith)

  pub entries_with : entries s l (count s) ≡ after ++ (entry_at s l i ∷ entries s l i)
  entries_with =
      let a : suc (i + (count s - 1 - i)) ≡ count s = omega arith in
      ap (entries s l) (sym a) ∙ split s l i (count s - 1 - i)
