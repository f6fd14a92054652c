-- Lines that go through a kernel together, in records of any count: `at r k` is number k of the record r, and L lines lie at the places sp. Assumes nothing.
--     walk-in                         a place of a record, as the code has it
--     gathered-more                   a number more of a record that is gathered
--     short, places-less              a side is at most 32; the places of fewer numbers
--     first-front, live-left          lists with the same first live numbers, and what a kernel leaves of them
--     GroupAsks, GroupGives           what a group of L lines is asked, and what it promises
--     turn-places, turn-bound, turn-left     a turn of a pass: the places and the bound of the next L lines, and the pass after them
--     through-asks, through-gives     live numbers of L lines that were gathered: what the kernel asks, and what stands there when they are put back
use mathlib.Core.Path.{◌≡◌, sym, ap, ◌∙◌, subst}
use mathlib.Core.Logic.{◌⊎◌, inl, inr}
use mathlib.Core.Bool.{true}
use mathlib.Core.List.{List}
use Prim.Native.Nat.{ℕ, ◌+◌, ◌*◌, ◌^◌, ◌≤◌, ◌<◌}
use native.Mathlib.Nat as N
use native.Mathlib.Omega.{arith}
use lib.IntN.{ℤ, pos, nat_abs}
use lib.ListN.{length, get_or, take, length-take}
use lib.Seq.{get_or-take}
use Rattle.whole.specs.Sums.{tab, Within}
use Rattle.whole.specs.Lanes.{col, walk, spot, Places}
use Rattle.whole.proofs.Sums.{within_all}
use Rattle.whole.proofs.Fill.{tab-at, length-tab}
use Rattle.whole.proofs.Lanes.{col-length}
use Rattle.whole.proofs.Grid.{Lines}
use Rattle.whole.proofs.Groups.{walk_is, line-spot, group-places, group-step, group-within}
use Rattle.tables.specs.Sizes.{cut}
use Rattle.tables.specs.Kinds.{has_kind}
use Rattle.tables.specs.Dense.{first_of, dense_of, first_dense}
use Rattle.tables.proofs.Kernels.{cut_most}
use Rattle.whole.proofs.Cells.{under}
use Rattle.tables.proofs.First.{past, first-is, first-in, first_out, first-length, first-within}

pub places-less : {L m j n : ℕ} {sp : ℕ → ℕ → ℕ} → j ≤ m → Places L m sp n → Places L j sp n
places-less h q = record { inside = λ k i a b. q.inside k i a (N.lt_of_lt_of_le b h); apart = λ k i l z a b c d e. q.apart k i l z a (N.lt_of_lt_of_le b h) c (N.lt_of_lt_of_le d h) e }

pub first-front : (live n : ℕ) (xs : List ℤ) (f : ℕ → ℤ) → live ≤ n → length xs ≡ n → ((k : ℕ) → k < live → get_or xs k (pos 0) ≡ f k) → first_of live xs ≡ first_of live (tab n f)
first-front live n xs f h e low =
    first-is live (tab n f) (first_of live xs) (first-length live xs ∙ e ∙ sym (length-tab n f))
    (λ k l. first-in live xs k l ∙ low k l ∙ sym (tab-at (pos 0) n f k (N.lt_of_lt_of_le l h))) (λ k l q. first_out live xs k l)

-- what a kernel leaves of a line whose first live numbers are f
pub live-left : (n live w : ℕ) (f : ℕ → ℤ) (xs : List ℤ) → live ≤ w → length xs ≡ w → ((k : ℕ) → k < live → get_or xs k (pos 0) ≡ f k) → (code : ℕ) → first_dense n code live xs ≡ first_dense n code live (tab w f)
live-left n live w f xs h long low code = ap (dense_of n code) (first-front live w xs f h long low)

pub walk-in : (q s k : ℕ) {n : ℕ} → walk q s k < n → q + k * s < n
walk-in q s k {n} h = subst (λ (z : ℕ). z < n) (walk_is q s k) h

-- a number more of a record that is gathered: the others are as they were
pub gathered-more : (f : ℕ → ℤ) {n j : ℕ} → (j ≡ n → ⊥) → get_or (tab n f) j (pos 0) ≡ get_or (tab (n + 1) f) j (pos 0)
gathered-more f {n} {j} h = go (under n j)
  where
    go : ((n ≤ j) ⊎ (j < n)) → get_or (tab n f) j (pos 0) ≡ get_or (tab (n + 1) f) j (pos 0)
    go (inl q) =
        past (tab n f) j (subst (λ (m : ℕ). m ≤ j) (sym (length-tab n f)) q)
        ∙ sym (past (tab (n + 1) f) j (subst (λ (m : ℕ). m ≤ j) (sym (length-tab (n + 1) f)) (omega arith)))
    go (inr q) = tab-at (pos 0) n f j q ∙ sym (tab-at (pos 0) (n + 1) f j (omega arith))

pub short : (n : ℕ) {m : ℕ} → cut n ≡ m → m ≤ 32
short n e = subst (λ (k : ℕ). k ≤ 32) e (cut_most n)

module _ {R : Type 0} (at : R → ℕ → ℤ) (L : ℕ) (sp : ℕ → ℕ → ℕ) (t : List ℤ) (n m live : ℕ) (side : cut n ≡ m) (few : live ≤ m) (ls : List R) (long : m ≤ length ls) (got : (k : ℕ) → take live (col at k ls) ≡ tab live (λ i. get_or (tab L (λ l. get_or t (sp l i) (pos 0))) k (pos 0))) where
  abbrev inputs : ℕ → List ℤ
  inputs k = take m (col at k ls)

  -- a live number that was gathered
  front : (k i : ℕ) → i < live → get_or (inputs k) i (pos 0) ≡ get_or (take live (col at k ls)) i (pos 0)
  front k i h = get_or-take m (col at k ls) i (pos 0) (N.lt_of_lt_of_le h few) ∙ sym (get_or-take live (col at k ls) i (pos 0) h)

  count : (k : ℕ) → length (inputs k) ≡ m
  count k = length-take m (col at k ls) ∙ N.min-eq_left (subst (λ (j : ℕ). m ≤ j) (sym (col-length at k ls)) long)

  is : (k i : ℕ) → k < L → i < live → get_or (inputs k) i (pos 0) ≡ get_or t (sp k i) (pos 0)
  is k i a h =
      front k i h ∙ ap (λ l. get_or l i (pos 0)) (got k) ∙ tab-at (pos 0) live (λ i. get_or (tab L (λ l. get_or t (sp l i) (pos 0))) k (pos 0)) i h
      ∙ tab-at (pos 0) L (λ l. get_or t (sp l i) (pos 0)) k a

  pub through-asks : ((k i : ℕ) → k < L → i < live → nat_abs (get_or t (sp k i) (pos 0)) ≤ 2 ^ 19) → (live ≤ cut n) × ((k : ℕ) → Within (2 ^ 19) (first_of live (take (cut n) (col at k ls))))
  through-asks low = (
    subst (λ (j : ℕ). live ≤ j) (sym side) few,
    λ k. subst (λ (j : ℕ). Within (2 ^ 19) (first_of live (take j (col at k ls)))) (sym side)
        (first-within live (inputs k) (2 ^ 19)
        (λ i p q. subst (λ (z : ℤ). nat_abs z ≤ 2 ^ 19) (sym (front k i p)) (within_all (2 ^ 19) (take live (col at k ls)) (group-within t live L sp at ls got (2 ^ 19) low k) i))),
  )

  pub through-gives : (code : ℕ) (rs : List R) → ((k : ℕ) → take (cut n) (col at k rs) ≡ dense_of n code (first_of live (take (cut n) (col at k ls)))) → (u : List ℤ)
      → ((k i : ℕ) → k < L → i < m → get_or u (sp k i) (pos 0) ≡ get_or (col at k rs) i (pos 0))
      → (k i : ℕ) → k < L → i < m → get_or u (sp k i) (pos 0) ≡ get_or (first_dense n code live (tab m (λ y. get_or t (sp k y) (pos 0)))) i (pos 0)
  through-gives code rs ran u put k i a h =
      put k i a h ∙ sym (get_or-take m (col at k rs) i (pos 0) h)
      ∙ ap (λ l. get_or l i (pos 0))
      (subst (λ (j : ℕ). take j (col at k rs) ≡ first_dense n code live (take j (col at k ls))) side (ran k)
      ∙ live-left n live m (λ y. get_or t (sp k y) (pos 0)) (inputs k) few (count k) (λ y q. is k y a q) code)

-- ---- a group
abbrev pub GroupAsks : ℕ → ℕ → ℕ → ℕ → ℕ → (ℕ → ℕ → ℕ) → List ℤ → Type 0
GroupAsks L m n code live sp t =
    ((has_kind n code ≡ true) × (cut n ≡ m) × (live ≤ m) × Places L m sp (length t)) × ((k i : ℕ) → k < L → i < live → nat_abs (get_or t (sp k i) (pos 0)) ≤ 2 ^ 19)

abbrev pub GroupGives : ℕ → ℕ → (List ℤ → List ℤ) → (ℕ → ℕ → ℕ) → List ℤ → List ℤ → Type 0
GroupGives L m K sp t u =
    ((k i : ℕ) → k < L → i < m → get_or u (sp k i) (pos 0) ≡ get_or (K (tab m (λ y. get_or t (sp k y) (pos 0)))) i (pos 0))
    × ((z : ℕ) → ((k i : ℕ) → k < L → i < m → z ≡ sp k i → ⊥) → get_or u z (pos 0) ≡ get_or t z (pos 0))

-- ---- a turn of a pass: the next L lines, from line i on
module _ (s p : ℕ) {m count : ℕ} {K : List ℤ → List ℤ} {w t : List ℤ} {i : ℕ} (inv : Lines (λ t k x. get_or t (k * s + x * p) (pos 0)) m count K w t i) (L : ℕ) (fit : i + L ≤ count) (all : Places count m (λ k x. k * s + x * p) (length w)) where
  pub turn-places : Places L m (spot (i * s) p s) (length t)
  turn-places = subst (λ (n : ℕ). Places L m (spot (i * s) p s) n) (sym inv.long) (group-places s p i fit all)

  inside : (k : ℕ) → k < L → i + k < count
  inside k l = omega arith

  pub turn-bound : (live : ℕ) → live ≤ m → ((k x : ℕ) → k < count → x < live → nat_abs (get_or w (k * s + x * p) (pos 0)) ≤ 2 ^ 19) → (k x : ℕ) → k < L → x < live → nat_abs (get_or t (spot (i * s) p s k x) (pos 0)) ≤ 2 ^ 19
  turn-bound live few low k x a b =
      subst (λ (z : ℤ). nat_abs z ≤ 2 ^ 19) (sym (ap (λ z. get_or t z (pos 0)) (line-spot s p i k x) ∙ inv.rest (i + k) x (N.le-add_right i k) (inside k a) (N.lt_of_lt_of_le b few)))
      (low (i + k) x (inside k a) b)

  pub turn-left : (u : List ℤ) → length u ≡ length t → GroupGives L m K (spot (i * s) p s) t u → Lines (λ t k x. get_or t (k * s + x * p) (pos 0)) m count K w u (i + L)
  turn-left u kept gives =
      group-step (λ k x. k * s + x * p) inv L fit (spot (i * s) p s) (λ l x a b. line-spot s p i l x) u kept (λ k x j y a b d e f. (all.apart k x j y a d b e f).0) gives.0 gives.1
