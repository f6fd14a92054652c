-- The first live inputs of a list, the others being 0 (document 02, §7). Assumes nothing.
--     past                        past the end of a list there is 0
--     first-length                as long as the list
--     first-in, first_out         its numbers: those of the list below live, 0 from there on
--     first-is                    a list with these numbers is it
--     first-all                   all of them live: the list itself
--     first-tab                   of a list that a rule makes
--     first-within                a bound on the live numbers
--     first-first, same_first, within_first  the first numbers of the first numbers
--     front_length, front-is, first-front    the first numbers of a list, one by one, and the live ones among them
--     dot-front, dot-first        a row's sum needs no number of it past the live inputs
--     dense-zero                  a kernel of zeros leaves zeros
use mathlib.Core.Path.{◌≡◌, refl, sym, ap, ◌∙◌, subst}
use mathlib.Core.Logic.{◌⊎◌, inl, inr}
use mathlib.Core.Bool.{Bool, true, false, cond}
use mathlib.Core.List.{List, [], ◌∷◌}
use Prim.Native.Nat.{ℕ, zero, suc, ◌≤◌, ◌<◌, zero-le, suc-le-suc}
use native.Mathlib.Nat as N
use native.Mathlib.Omega.{arith}
use borrow.Author.Tests.{lt-ltb, le-ltb}
use lib.Dec.{eqb, ltb}
use lib.IntN.{ℤ, pos, ◌+ℤ◌, ◌*ℤ◌, nat_abs, *ℤ-zero, zero-*ℤ}
use lib.ListN.{length, get_or, take, length-take}
use lib.Seq.{get_or-take}
use Rattle.whole.specs.Sums.{tab, dot_z, row_at, col_at, flipped, dense_c, Within}
use Rattle.whole.proofs.Sums.{within_all}
use Rattle.whole.proofs.Cells.{under}
use Rattle.whole.proofs.Fill.{length-tab, tab-at, filled-all, within-tab}
use Rattle.tables.specs.Sizes.{cut}
use Rattle.tables.specs.Dense.{first_of, dct_table, adst_table, flipadst_table, ddt_table, factor, dense_by, multiplied, dense_of}

abbrev kept : ℕ → (ℕ → ℤ) → ℕ → ℤ
kept live f i = cond (ltb i live) (f i) (pos 0)

kept_in : (live : ℕ) (f : ℕ → ℤ) (i : ℕ) → i < live → kept live f i ≡ f i
kept_in live f i h = simp (lt-ltb i live h)

kept_out : (live : ℕ) (f : ℕ → ℤ) (i : ℕ) → live ≤ i → kept live f i ≡ pos 0
kept_out live f i h = simp (le-ltb i live h)

-- past the end of a list
pub past : (xs : List ℤ) (k : ℕ) → length xs ≤ k → get_or xs k (pos 0) ≡ pos 0
past [] k h = refl
past (x ∷ xs) zero h = absurd (N.not-suc-le-zero h)
past (x ∷ xs) (suc k) h = past xs k (N.le_of_suc-le-suc h)

module _ (live : ℕ) (xs : List ℤ) where
  abbrev rule : ℕ → ℤ
  rule i = cond (ltb i live) (get_or xs i (pos 0)) (pos 0)

  pub first-length : length (first_of live xs) ≡ length xs
  unfolding first_of
  first-length = length-tab (length xs) rule

  at : (k : ℕ) → k < length xs → get_or (first_of live xs) k (pos 0) ≡ rule k
  unfolding first_of
  at k h = tab-at (pos 0) (length xs) rule k h

  beyond : (k : ℕ) → length xs ≤ k → get_or (first_of live xs) k (pos 0) ≡ pos 0
  beyond k h = past (first_of live xs) k (subst (λ (n : ℕ). n ≤ k) (sym first-length) h)

  pub first-in : (k : ℕ) → k < live → get_or (first_of live xs) k (pos 0) ≡ get_or xs k (pos 0)
  first-in k h = go (under (length xs) k)
    where
      go : ((length xs ≤ k) ⊎ (k < length xs)) → get_or (first_of live xs) k (pos 0) ≡ get_or xs k (pos 0)
      go (inl q) = beyond k q ∙ sym (past xs k q)
      go (inr q) = at k q ∙ kept_in live (λ i. get_or xs i (pos 0)) k h

  pub first_out : (k : ℕ) → live ≤ k → get_or (first_of live xs) k (pos 0) ≡ pos 0
  first_out k h = go (under (length xs) k)
    where
      go : ((length xs ≤ k) ⊎ (k < length xs)) → get_or (first_of live xs) k (pos 0) ≡ pos 0
      go (inl q) = beyond k q
      go (inr q) = at k q ∙ kept_out live (λ i. get_or xs i (pos 0)) k h

  pub first-is : (ys : List ℤ) → length ys ≡ length xs
      → ((k : ℕ) → k < live → get_or ys k (pos 0) ≡ get_or xs k (pos 0)) → ((k : ℕ) → live ≤ k → k < length xs → get_or ys k (pos 0) ≡ pos 0) → ys ≡ first_of live xs
  unfolding first_of
  first-is ys e low high = filled-all (pos 0) ys (length xs) rule e (λ k l. go k l (under live k))
    where
      go : (k : ℕ) → k < length xs → ((live ≤ k) ⊎ (k < live)) → get_or ys k (pos 0) ≡ rule k
      go k l (inl q) = high k q l ∙ sym (kept_out live (λ i. get_or xs i (pos 0)) k q)
      go k l (inr q) = low k q ∙ sym (kept_in live (λ i. get_or xs i (pos 0)) k q)

  pub first-within : (b : ℕ) → ((k : ℕ) → k < live → k < length xs → nat_abs (get_or xs k (pos 0)) ≤ b) → Within b (first_of live xs)
  unfolding first_of
  first-within b h = within-tab b (length xs) rule (λ k l. go k l (under live k))
    where
      go : (k : ℕ) → k < length xs → ((live ≤ k) ⊎ (k < live)) → nat_abs (rule k) ≤ b
      go k l (inl q) = subst (λ (z : ℤ). nat_abs z ≤ b) (sym (kept_out live (λ i. get_or xs i (pos 0)) k q)) zero-le
      go k l (inr q) = subst (λ (z : ℤ). nat_abs z ≤ b) (sym (kept_in live (λ i. get_or xs i (pos 0)) k q)) (h k q l)

pub first-all : (live : ℕ) (xs : List ℤ) → length xs ≤ live → first_of live xs ≡ xs
first-all live xs h = sym (first-is live xs xs refl (λ k l. refl) (λ k l q. absurd (N.not-le_of_lt q (N.le_trans h l))))

-- of a list by a rule f, where g has its numbers below live and 0 from there on
pub first-tab : (live n : ℕ) (f g : ℕ → ℤ) → ((k : ℕ) → k < live → k < n → f k ≡ g k) → ((k : ℕ) → live ≤ k → k < n → g k ≡ pos 0) → first_of live (tab n f) ≡ tab n g
first-tab live n f g low high =
    sym
    (first-is live (tab n f) (tab n g) (length-tab n g ∙ sym (length-tab n f))
    (λ k l. go k l (under n k))
    (λ k l q. let r = subst (λ (m : ℕ). k < m) (length-tab n f) q in tab-at (pos 0) n g k r ∙ high k l r))
  where
    go : (k : ℕ) → k < live → ((n ≤ k) ⊎ (k < n)) → get_or (tab n g) k (pos 0) ≡ get_or (tab n f) k (pos 0)
    go k l (inl q) = past (tab n g) k (subst (λ (m : ℕ). m ≤ k) (sym (length-tab n g)) q) ∙ sym (past (tab n f) k (subst (λ (m : ℕ). m ≤ k) (sym (length-tab n f)) q))
    go k l (inr q) = tab-at (pos 0) n g k q ∙ sym (low k l q) ∙ sym (tab-at (pos 0) n f k q)

-- ---- the first live of the first most
pub first-first : (live most : ℕ) (ys : List ℤ) → live ≤ most → first_of live (first_of most ys) ≡ first_of live ys
first-first live most ys h =
    first-is live ys (first_of live (first_of most ys)) (first-length live (first_of most ys) ∙ first-length most ys)
    (λ k l. first-in live (first_of most ys) k l ∙ first-in most ys k (N.lt_of_lt_of_le l h)) (λ k l r. first_out live (first_of most ys) k l)

-- ---- the first live of the first n or m: the same numbers below n, and the same bound
module _ (live n m : ℕ) (ys : List ℤ) (h : live ≤ n) (l : n ≤ m) where
  pub same_first : (i : ℕ) → get_or (first_of live (take m ys)) i (pos 0) ≡ get_or (first_of live (take n ys)) i (pos 0)
  same_first i = go (under live i)
    where
      go : ((live ≤ i) ⊎ (i < live)) → get_or (first_of live (take m ys)) i (pos 0) ≡ get_or (first_of live (take n ys)) i (pos 0)
      go (inl q) = first_out live (take m ys) i q ∙ sym (first_out live (take n ys) i q)
      go (inr q) =
          first-in live (take m ys) i q ∙ get_or-take m ys i (pos 0) (omega arith) ∙ sym (get_or-take n ys i (pos 0) (omega arith)) ∙ sym (first-in live (take n ys) i q)

  pub within_first : (b : ℕ) → Within b (first_of live (take n ys)) → Within b (first_of live (take m ys))
  within_first b w i q = subst (λ (z : ℤ). nat_abs z ≤ b) (sym (same_first i)) (within_all b (first_of live (take n ys)) w i)

-- ---- the first n numbers of a list
pub front_length : (n : ℕ) (xs : List ℤ) → n ≤ length xs → length (take n xs) ≡ n
front_length n xs h = length-take n xs ∙ N.min-eq_left h

pub front-is : (n : ℕ) (xs : List ℤ) → n ≤ length xs → take n xs ≡ tab n (λ i. get_or xs i (pos 0))
front-is n xs h = filled-all (pos 0) (take n xs) n (λ i. get_or xs i (pos 0)) (front_length n xs h) (λ i l. get_or-take n xs i (pos 0) l)

-- the first live of the first n, where these are among the first n
pub first-front : (live n m : ℕ) (ys : List ℤ) → live ≤ n → n ≤ m → m ≤ length ys → first_of live (take n ys) ≡ take n (first_of live (take m ys))
first-front live n m ys h l q =
    sym
    (first-is live (take n ys) (take n (first_of live (take m ys))) (front_length n (first_of live (take m ys)) (omega (arith, first-length live (take m ys), front_length m ys q)) ∙ sym long)
    (λ k r. get_or-take n (first_of live (take m ys)) k (pos 0) (N.lt_of_lt_of_le r h) ∙ same_first live n m ys h l k ∙ first-in live (take n ys) k r)
    (λ k r z. get_or-take n (first_of live (take m ys)) k (pos 0) (subst (λ (v : ℕ). k < v) long z) ∙ first_out live (take m ys) k r))
  where
    long : length (take n ys) ≡ n
    long = front_length n ys (N.le_trans l q)

-- ---- sums
abbrev Zeros : ℕ → List ℤ → Type 0
Zeros k ys = (i : ℕ) → k ≤ i → get_or ys i (pos 0) ≡ pos 0

dot-zero : (r ys : List ℤ) → Zeros 0 ys → dot_z r ys ≡ pos 0
dot-zero [] ys h = refl
dot-zero (a ∷ r) [] h = refl
dot-zero (a ∷ r) (y ∷ ys) h =
    ap (λ z. z +ℤ dot_z r ys) (ap (λ z. a *ℤ z) (h 0 zero-le) ∙ *ℤ-zero a) ∙ ap (λ z. pos 0 +ℤ z) (dot-zero r ys (λ i l. h (suc i) zero-le))

pub dot-front : (k : ℕ) (r ys : List ℤ) → Zeros k ys → dot_z (take k r) ys ≡ dot_z r ys
dot-front zero r ys h = sym (dot-zero r ys h)
dot-front (suc k) [] ys h = refl
dot-front (suc k) (a ∷ r) [] h = refl
dot-front (suc k) (a ∷ r) (y ∷ ys) h = ap (λ z. a *ℤ y +ℤ z) (dot-front k r ys (λ i l. h (suc i) (suc-le-suc l)))

pub dot-first : (k live : ℕ) (r xs : List ℤ) → live ≤ k → dot_z (take k r) (first_of live xs) ≡ dot_z r (first_of live xs)
dot-first k live r xs h = dot-front k r (first_of live xs) (λ i l. first_out live xs i (N.le_trans h l))

-- ---- a kernel of zeros
zeros : (n : ℕ) (f : ℕ → ℤ) → ((i : ℕ) → f i ≡ pos 0) → (x : ℕ) → get_or (tab n f) x (pos 0) ≡ pos 0
zeros n f h x = go (under n x)
  where
    go : ((n ≤ x) ⊎ (x < n)) → get_or (tab n f) x (pos 0) ≡ pos 0
    go (inl q) = past (tab n f) x (subst (λ (m : ℕ). m ≤ x) (sym (length-tab n f)) q)
    go (inr q) = tab-at (pos 0) n f x q ∙ h x

module _ (n code : ℕ) (xs : List ℤ) (h : (i : ℕ) → get_or xs i (pos 0) ≡ pos 0) (x : ℕ) where
  none : (r : List ℤ) → dot_z r xs ≡ pos 0
  none r = dot-zero r xs (λ i l. h i)

  pub dense-zero : get_or (dense_of n code xs) x (pos 0) ≡ pos 0
  unfolding dense_of
  dense-zero = by (eqb code 0) (eqb code 1) (eqb code 2) (eqb code 3) (eqb code 4)
    where
      by : (p q r s t : Bool) → get_or (cond p (dense_c (cut n) (dct_table n) xs) (cond q (multiplied n (pos (factor n)) xs) (cond r (dense_by false n (adst_table n) xs) (cond s (dense_by (eqb n 8) n (flipadst_table n) xs) (cond t (dense_by false n (ddt_table n) xs) (dense_by true n (ddt_table n) xs)))))) x (pos 0) ≡ pos 0
      by true q r s t = zeros (cut n) (λ m. dot_z (col_at (cut n) (dct_table n) m) xs) (λ m. none (col_at (cut n) (dct_table n) m)) x
      by false true r s t = zeros n (λ i. get_or xs i (pos 0) *ℤ pos (factor n)) (λ i. ap (λ z. z *ℤ pos (factor n)) (h i) ∙ zero-*ℤ (pos (factor n))) x
      by false false true s t = zeros n (λ i. dot_z (row_at n (adst_table n) i) xs) (λ i. none (row_at n (adst_table n) i)) x
      by false false false true t = zeros n (λ i. dot_z (row_at n (flipadst_table n) (flipped (eqb n 8) n i)) xs) (λ i. none (row_at n (flipadst_table n) (flipped (eqb n 8) n i))) x
      by false false false false true = zeros n (λ i. dot_z (row_at n (ddt_table n) i) xs) (λ i. none (row_at n (ddt_table n) i)) x
      by false false false false false = zeros n (λ i. dot_z (row_at n (ddt_table n) (flipped true n i)) xs) (λ i. none (row_at n (ddt_table n) (flipped true n i))) x
