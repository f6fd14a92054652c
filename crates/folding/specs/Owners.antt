-- Who went into whom. Definitions only; for the code of document 02, section 10.
-- Of the first n steps, step j went into step w j: itself where it stands for a step of the folded list, else an earlier one, or none of the list where it was dropped.
--     owner o j               w, as a list in memory has it
--     total w l h n k         residual k, summed over those of the first n steps that went into step h
--     group_at w s l n h       step h with the levels of that sum
--     groups w s l n m        the folded list, newest first: those of the first m steps that stand for one
--     partner w s r c n       the latest of these that shares a sample with the block at r, c, counted from 1; 0 for none
--     Listed s l n            what the code knows of the n steps
--     Sums w l h n            what a sum of the steps of h asks for: each step, and each partial sum, is in range
--     Owned s l o n           the first n owners in o are those of the folded list
--     Placed s l o n r        r says whether no sum has left its range; then the first n owners are known
use Rattle.std.specs.Prelude.{◌≡◌, Bool, true, cond, ◌&&◌, List, [], ◌∷◌, ℕ, zero, suc, ◌+◌, ◌*◌, ◌^◌, ◌≤◌, ◌<◌, eqb, ℤ, pos, nat_abs, ◌+ℤ◌, length, get_or}
use Rattle.whole.specs.Sums.{tab, item}
use Rattle.wht.specs.Wht.{fwht, iwht}
use Rattle.wht.specs.Calls.{Sixteen}
use Rattle.remain.specs.Remaining.{Entry, mark, word, mark_at, levels_at, entries, last, put_mark, put_on}
use Rattle.remain.specs.Touch.{touches}
use Rattle.folding.specs.Pass.{one_pass, pass_fair}

abbrev pub owner : List ℕ → ℕ → ℕ
owner o j = get_or o j 0

unfoldable pub total : (ℕ → ℕ) → List ℤ → ℕ → ℕ → ℕ → ℤ
total w l h zero k = pos 0
total w l h (suc j) k = cond (eqb (w j) h) (total w l h j k +ℤ item (iwht (levels_at l j)) k) (total w l h j k)

abbrev pub sum_of : (ℕ → ℕ) → List ℤ → ℕ → ℕ → List ℤ
sum_of w l n h = tab 16 (total w l h n)

abbrev pub group_at : (ℕ → ℕ) → List ℕ → List ℤ → ℕ → ℕ → Entry
group_at w s l n h = record { mark = mark_at s h; levels = fwht (sum_of w l n h) }

unfoldable pub groups : (ℕ → ℕ) → List ℕ → List ℤ → ℕ → ℕ → List Entry
groups w s l n zero = []
groups w s l n (suc h) = cond (eqb (w h) h) (group_at w s l n h ∷ groups w s l n h) (groups w s l n h)

abbrev pub partner : (ℕ → ℕ) → List ℕ → ℕ → ℕ → ℕ → ℕ
partner w s r c n = last (λ j. eqb (w j) j && touches r c (mark_at s j)) n

-- the steps i and j are on one block, at one depth
abbrev pub alike_at : List ℕ → ℕ → ℕ → Bool
alike_at s i j = eqb (word s i 1) (word s j 1) && (eqb (word s i 2) (word s j 2) && eqb (word s i 3) (word s j 3))

pub record Listed (s : List ℕ) (l : List ℤ) (n : ℕ) : Type 0 where
  pub steps : length s ≡ 16385
  pub levels : length l ≡ 65536
  pub most : n ≤ 4096
  pub deep : (j : ℕ) → j < n → word s j 1 ≤ 12
  pub near : (j : ℕ) → j < n → (word s j 2 < 2 ^ 32) × (word s j 3 < 2 ^ 32)
  pub sixteen : (j : ℕ) → j < n → Sixteen 262144 (levels_at l j)

pub record Sums (w : ℕ → ℕ) (l : List ℤ) (h n : ℕ) : Type 0 where
  pub each : (j : ℕ) → j < n → w j ≡ h → Sixteen 262144 (levels_at l j)
  pub part : (m k : ℕ) → m ≤ n → k < 16 → nat_abs (total w l h m k) ≤ 1048576

pub record Owned (s : List ℕ) (l : List ℤ) (o : List ℕ) (n : ℕ) : Type 0 where
  pub long : length o ≡ 4096
  pub below : (j : ℕ) → j < n → owner o j < 4096 → owner o j ≤ j
  pub sums : (h : ℕ) → h < n → owner o h ≡ h → Sums (owner o) l h n
  pub is : one_pass (entries s l n) ≡ groups (owner o) s l n n

pub record Placed (s : List ℕ) (l : List ℤ) (o : List ℕ) (n : ℕ) (r : Bool) : Type 0 where
  pub fair : pass_fair (entries s l n) ≡ r
  pub long : length o ≡ 4096
  pub owned : r ≡ true → Owned s l o n

-- step h, if it stands for one of the folded list, is to be put at place m
pub record Puts (s : List ℕ) (l : List ℤ) (o : List ℕ) (n h m : ℕ) : Type 0 where
  pub steps : length s ≡ 16385
  pub levels : length l ≡ 65536
  pub owners : length o ≡ 4096
  pub most : n ≤ 4096
  pub less : h < n
  pub room : m ≤ h
  pub row : word s h 2 < 2 ^ 32
  pub column : word s h 3 < 2 ^ 32
  pub sums : owner o h ≡ h → Sums (owner o) l h n

-- and what that leaves; r is the next place
pub record Put (s : List ℕ) (l : List ℤ) (o : List ℕ) (n h m : ℕ) (s' : List ℕ) (l' : List ℤ) (r : ℕ) (b : Bool) : Type 0 where
  pub next : r ≡ cond b (m + 1) m
  pub steps : s' ≡ cond b (put_mark m (mark (m + 1) (word s h 1) (word s h 2) (word s h 3)) s) s
  pub levels : l' ≡ cond b (put_on (16 * m) (fwht (sum_of (owner o) l n h)) 16 l) l
