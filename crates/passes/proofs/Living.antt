-- The live part of a block, and what its passes leave. Assumes nothing.
--     part-dead, lent-dead             a part of a list that holds no number other than 0, by the list's own places
--     line-more, lines-tail            one empty line more; the lines after the fourth, tested as a whole
--     line-done, fours-more            four places, line by line; four empty places more
--     dead-lines                       the lines and the places together
--     by-columns, by_rows              the same by the order of the coefficients
--     entry_zero, settled-zero         0 is loaded as 0, and a step keeps it
--     live-asks                        what a kernel asks of a line
--     zero-loaded                      what is loaded of the dead part
--     live-bounded, side-least         what the rows leave is within 2^30; a side has at least four numbers
--     live-block                       load, rows, the step between and columns over the live part are the definition
use mathlib.Core.Path.{◌≡◌, sym, ap, ◌∙◌, subst}
use mathlib.Core.Logic.{◌⊎◌, inl, inr}
use mathlib.Core.Bool.{Bool, true, false}
use mathlib.Core.List.{List}
use Prim.Native.Nat.{ℕ, ◌+◌, ◌*◌, ◌-◌, ◌^◌, ◌≤◌, ◌<◌}
use native.Mathlib.Nat as N
use native.Mathlib.Decide.{ℕ_discrete}
use native.Mathlib.Omega.{arith}
use lib.Arith.{lt_of_le-ne}
use lib.Dec.{lit≤}
use lib.IntN.{ℤ, pos, nat_abs}
use lib.ListN.{length, get_or, take, drop}
use Rattle.whole.specs.Sums.{tab}
use Rattle.whole.specs.Grid.{rows_by, cols_by, Same, Bounded}
use Rattle.whole.proofs.Cells.{under}
use Rattle.whole.proofs.Sums.{within_all}
use Rattle.whole.proofs.Fill.{tab-at, length-tab}
use Rattle.whole.proofs.Lent.{part_at, part_count, lent, lent_at, lent-count}
use Rattle.tables.specs.Dense.{first_of, dense_of, first_dense}
use Rattle.tables.specs.Sizes.{cut}
use Rattle.tables.specs.Kinds.{has_kind}
use Rattle.tables.proofs.Kernels.{Length, n4, n8, n16, n32, n64, lengths, dense-size}
use Rattle.tables.proofs.First.{past, first-length, first-within, first-tab, dense-zero}
use Rattle.kernels.specs.Inputs.{Live}
use Rattle.whole.specs.Numbers.{clamp, round_shift}
use Rattle.whole.proofs.Tables.{same_at}
use Rattle.passes.specs.Passes.{clamp_to, scaling, entry, settled_to, number_at, loaded, Dead, DeadLines, DeadFours}

-- ---- the search
-- a part that was lent from a on, n places long
pub part-dead : (cs : List ℤ) (a n : ℕ) → a + n ≤ length cs → ((k : ℕ) → k < length (take n (drop a cs)) → get_or (take n (drop a cs)) k (pos 0) ≡ pos 0)
    → (k : ℕ) → k < n → get_or cs (a + k) (pos 0) ≡ pos 0
part-dead cs a n fit h k l = sym (part_at (pos 0) cs a n k l) ∙ h k (subst (λ (m : ℕ). k < m) (sym (part_count cs a n fit)) l)

-- the same of a part that ends at a + n
pub lent-dead : (cs : List ℤ) (a n : ℕ) → a + n ≤ length cs → ((k : ℕ) → k < length (lent a n cs) → get_or (lent a n cs) k (pos 0) ≡ pos 0) → (k : ℕ) → k < n → get_or cs (a + k) (pos 0) ≡ pos 0
lent-dead cs a n fit h k l = sym (lent_at (pos 0) cs a n fit k l) ∙ h k (subst (λ (m : ℕ). k < m) (sym (lent-count (pos 0) cs a n fit)) l)

pub line-more : (cs : List ℤ) (top sh x y : ℕ) → x ≡ y + 1 → DeadLines x top sh cs → ((k : ℕ) → k < sh → get_or cs (y * sh + k) (pos 0) ≡ pos 0) → DeadLines y top sh cs
line-more cs top sh x y e old new r z a b c = go (ℕ_discrete z y)
  where
    go : Dec (z ≡ y) → get_or cs (r + z * sh) (pos 0) ≡ pos 0
    go (yes w) = ap (λ j. get_or cs (r + j * sh) (pos 0)) w ∙ ap (λ j. get_or cs j (pos 0)) (N.add_comm r (y * sh)) ∙ new r a
    go (no w) = old r z a (next (lt_of_le-ne b (λ q. w (sym q)))) c
      where
        next : y < z → x ≤ z
        next h = omega arith

pub lines-tail : (cs : List ℤ) (cols sw sh : ℕ) → cols ≤ 4 → 4 ≤ sw → DeadLines cols 4 sh cs → ((k : ℕ) → k < sw * sh - 4 * sh → get_or cs (4 * sh + k) (pos 0) ≡ pos 0) → DeadLines cols sw sh cs
lines-tail cs cols sw sh h l old tail r z a b c = go (under 4 z)
  where
    go : ((4 ≤ z) ⊎ (z < 4)) → get_or cs (r + z * sh) (pos 0) ≡ pos 0
    go (inr q) = old r z a b q
    go (inl q) =
        let p : r + z * sh < sw * sh = cell r z a c in
        let m : 4 * sh ≤ z * sh = N.mul-le-mul_right sh q in
        ap (λ j. get_or cs j (pos 0)) (at (r + z * sh) (4 * sh) (low r (z * sh) (4 * sh) m)) ∙ tail (r + z * sh - 4 * sh) (less (r + z * sh) (4 * sh) (sw * sh) p (low r (z * sh) (4 * sh) m))
      where
        cell : (r z : ℕ) → r < sh → z < sw → r + z * sh < sw * sh
        cell r z a c = omega (arith, N.mul-le-mul_right sh c, N.suc-mul z sh)

        low : (r m n : ℕ) → n ≤ m → n ≤ r + m
        low r m n h = omega arith

        at : (p q : ℕ) → q ≤ p → p ≡ q + (p - q)
        at p q h = omega arith

        less : (p q s : ℕ) → p < s → q ≤ p → p - q < s - q
        less p q s h l = omega arith

-- four places from r on, in the first x lines
abbrev pub FourDead : List ℤ → ℕ → ℕ → ℕ → Type 0
FourDead cs r sh x = (k y : ℕ) → k < 4 → y < x → get_or cs (r + k + y * sh) (pos 0) ≡ pos 0

pub line-done : (cs : List ℤ) (r sh x : ℕ) → FourDead cs r sh x → ((k : ℕ) → k < 4 → get_or cs (r + x * sh + k) (pos 0) ≡ pos 0) → FourDead cs r sh (x + 1)
line-done cs r sh x old new k y a b = go (ℕ_discrete y x)
  where
    place : (r k m : ℕ) → r + k + m ≡ r + m + k
    place r k m = omega arith

    go : Dec (y ≡ x) → get_or cs (r + k + y * sh) (pos 0) ≡ pos 0
    go (yes w) = ap (λ j. get_or cs (r + k + j * sh) (pos 0)) w ∙ ap (λ j. get_or cs j (pos 0)) (place r k (x * sh)) ∙ new k a
    go (no w) = old k y a (lt_of_le-ne (omega arith) w)

pub fours-more : (cs : List ℤ) (cols sh r a : ℕ) → r ≡ a + 4 → DeadFours r cols sh cs → FourDead cs a sh cols → DeadFours a cols sh cs
fours-more cs cols sh r a e old new i x p q l = go (under r i)
  where
    go : ((r ≤ i) ⊎ (i < r)) → get_or cs (i + x * sh) (pos 0) ≡ pos 0
    go (inl w) = old i x w q l
    go (inr w) = ap (λ j. get_or cs (j + x * sh) (pos 0)) (back i a p) ∙ new (i - a) x (less i w) l
      where
        back : (i a : ℕ) → a ≤ i → i ≡ a + (i - a)
        back i a h = omega arith

        less : (i : ℕ) → i < r → i - a < 4
        less i h = omega (arith, e)

-- place r of line x, where the lines from live on, or the places from fours on, are dead
pub dead-lines : (cs : List ℤ) (live fours lines size : ℕ) → DeadLines live lines size cs → DeadFours fours live size cs → (r x : ℕ) → r < size → x < lines → ((fours ≤ r) ⊎ (live ≤ x)) → get_or cs (r + x * size) (pos 0) ≡ pos 0
dead-lines cs live fours lines size dl df r x p q s = gone s (under live x)
  where
    gone : ((fours ≤ r) ⊎ (live ≤ x)) → ((live ≤ x) ⊎ (x < live)) → get_or cs (r + x * size) (pos 0) ≡ pos 0
    gone s (inl v) = dl r x p v q
    gone (inl u) (inr v) = df r x u p v
    gone (inr u) (inr v) = dl r x p u q

-- the lines are the columns
pub by-columns : (rowwise : Bool) (cs : List ℤ) (sw sh cols rows : ℕ) → rowwise ≡ false → DeadLines cols sw sh cs → DeadFours rows cols sh cs → Dead rowwise sw sh cols rows cs
by-columns rowwise cs sw sh cols rows e dl df r x p q s = ap (λ o. get_or cs (number_at o sw sh r x) (pos 0)) e ∙ dead-lines cs cols rows sw sh dl df r x p q s

-- the lines are the rows, and more of them than are live may be taken
pub by_rows : (rowwise : Bool) (cs : List ℤ) (sw sh cols live rows : ℕ) → rowwise ≡ true → live ≤ rows → DeadLines live sh sw cs → DeadFours cols live sw cs → Dead rowwise sw sh cols rows cs
by_rows rowwise cs sw sh cols live rows e h dl df r x p q s =
    ap (λ o. get_or cs (number_at o sw sh r x) (pos 0)) e ∙ ap (λ k. get_or cs k (pos 0)) (N.add_comm (r * sw) x) ∙ dead-lines cs live cols sh sw dl df x r q p (other s)
  where
    other : ((rows ≤ r) ⊎ (cols ≤ x)) → ((cols ≤ x) ⊎ (live ≤ r))
    other (inl u) = inr (N.le_trans h u)
    other (inr u) = inl u

-- ---- lists with the same first numbers
-- ---- the whole block
module _ (w h cols rows : ℕ) (n m code kind : ℕ) (step : ℤ → ℤ) (keeps : step (pos 0) ≡ pos 0) (cs a b c d : ℕ → ℕ → ℤ)
    (dead : (r x : ℕ) → r < h → x < w → ((rows ≤ r) ⊎ (cols ≤ x)) → cs r x ≡ pos 0) (wide : cols ≤ w) (high : rows ≤ h)
    (load : Same cols rows a cs) (row : Same w rows b (rows_by (first_dense n code cols) w a)) (settle : Same w rows c (λ r x. step (b r x))) (column : Same w h d (cols_by (first_dense m kind rows) h c)) where
  -- a live row, as the definition has it
  line : (r : ℕ) → r < rows → first_of cols (tab w (a r)) ≡ tab w (cs r)
  line r l = first-tab cols w (a r) (cs r) (λ x p q. load r x l p) (λ x p q. dead r x (N.lt_of_lt_of_le l high) q (inr p))

  -- the middle of a live row, and of a dead one
  middle : (r x : ℕ) → r < rows → x < w → c r x ≡ step (rows_by (dense_of n code) w cs r x)
  middle r x l q = settle r x l q ∙ ap step (row r x l q ∙ ap (λ z. get_or (dense_of n code z) x (pos 0)) (line r l))

  empty : (r : ℕ) → rows ≤ r → r < h → (i : ℕ) → get_or (tab w (cs r)) i (pos 0) ≡ pos 0
  empty r p q i = go (under w i)
    where
      go : ((w ≤ i) ⊎ (i < w)) → get_or (tab w (cs r)) i (pos 0) ≡ pos 0
      go (inl z) = past (tab w (cs r)) i (subst (λ (n : ℕ). n ≤ i) (sym (length-tab w (cs r))) z)
      go (inr z) = tab-at (pos 0) w (cs r) i z ∙ dead r i q z (inl p)

  none : (r x : ℕ) → rows ≤ r → r < h → step (rows_by (dense_of n code) w cs r x) ≡ pos 0
  none r x p q = ap step (dense-zero n code (tab w (cs r)) (empty r p q) x) ∙ keeps

  pub live-block : Same w h d (cols_by (dense_of m kind) h (λ r x. step (rows_by (dense_of n code) w cs r x)))
  live-block r x p q =
      column r x p q
      ∙ ap (λ z. get_or (dense_of m kind z) r (pos 0))
      (first-tab rows h (λ i. c i x) (λ i. step (rows_by (dense_of n code) w cs i x)) (λ i u v. middle i x u q) (λ i u v. none i x u v))

-- ---- 0 stays 0
pub zero-loaded : (rowwise scale : Bool) (depth sw sh cols rows : ℕ) (cs : List ℤ) → Dead rowwise sw sh cols rows cs → entry scale depth (pos 0) ≡ pos 0
    → (r x : ℕ) → r < sh → x < sw → ((rows ≤ r) ⊎ (cols ≤ x)) → loaded rowwise scale depth sw sh cs r x ≡ pos 0
zero-loaded rowwise scale depth sw sh cols rows cs d z r x p q s = ap (entry scale depth) (d r x p q s) ∙ z

clamp-zero : (depth : ℕ) → depth ≤ 12 → clamp_to (depth + 7) (pos 0) ≡ pos 0
unfolding clamp
clamp-zero depth h = same_at 13 (λ d. clamp_to (d + 7) (pos 0)) (λ _. pos 0) tt depth (omega arith)

pub entry_zero : (scale : Bool) (depth : ℕ) → depth ≤ 12 → entry scale depth (pos 0) ≡ pos 0
unfolding scaling
entry_zero true depth h = clamp-zero depth h
entry_zero false depth h = clamp-zero depth h

round-zero : (shift : ℕ) → shift ≤ 16 → round_shift shift (pos 0) ≡ pos 0
round-zero shift h = same_at 17 (λ s. round_shift s (pos 0)) (λ _. pos 0) tt shift (omega arith)

pub settled-zero : (depth shift : ℕ) → depth ≤ 12 → shift ≤ 16 → settled_to (depth + 7) shift (pos 0) ≡ pos 0
settled-zero depth shift h l = ap (clamp_to (depth + 7)) (round-zero shift l) ∙ clamp-zero depth h

-- ---- what a kernel asks of a line whose first live numbers are f
module _ (n live w : ℕ) (f : ℕ → ℤ) (xs : List ℤ) (e : cut n ≡ w) (h : live ≤ w) (long : length xs ≡ w) (low : (k : ℕ) → k < live → get_or xs k (pos 0) ≡ f k) where
  pub live-asks : ((k : ℕ) → k < live → nat_abs (f k) ≤ 2 ^ 19) → Live (cut n) live xs
  live-asks small = (
    subst (λ (m : ℕ). live ≤ m) (sym e) h,
    (
      first-length live xs ∙ long ∙ sym e,
      first-within live xs (2 ^ 19) (λ k p q. subst (λ (z : ℤ). nat_abs z ≤ 2 ^ 19) (sym (low k p)) (small k p)),
    ),
  )

-- ---- sizes
pub live-bounded : (n code w h live : ℕ) (f g : ℕ → ℕ → ℤ) → has_kind n code ≡ true → live ≤ w → Bounded (2 ^ 19) live h g → Same w h f (rows_by (first_dense n code live) w g) → Bounded (2 ^ 30) w h f
live-bounded n code w h live f g k l p e r x a b =
    subst (λ (z : ℤ). nat_abs z ≤ 2 ^ 30) (sym (e r x a b))
    (within_all (2 ^ 30) (first_dense n code live (tab w (g r)))
    (dense-size n code (first_of live (tab w (g r))) k
    (first-within live (tab w (g r)) (2 ^ 19) (λ y u v. subst (λ (z : ℤ). nat_abs z ≤ 2 ^ 19) (sym (tab-at (pos 0) w (g r) y (N.lt_of_lt_of_le u l))) (p r y a u)))) x)

pub side-least : (n code : ℕ) → has_kind n code ≡ true → 4 ≤ cut n
side-least n code h = by_length (lengths n code h).0
  where
    by_length : {m : ℕ} → Length m → 4 ≤ cut m
    by_length n4 = lit≤ tt
    by_length n8 = lit≤ tt
    by_length n16 = lit≤ tt
    by_length n32 = lit≤ tt
    by_length n64 = lit≤ tt
