-- Sixteen lines side by side: number r of line l of a list stands at place r * 16 + l. Definitions only.
-- It is inside the fast form, and nothing has to be believed of it: the calls promise `add_of`, `float_of` and `bytes_of`.
--     line t l r                 that number
--     taps n p d t               n numbers, from place p on, d apart
--     Low b f                    sixteen numbers are within b
--     Both f o lo hi             sixteen sums f l + o l, and sixteen differences, with o within 2^26
--     Written m z f g old new    rows m and z now hold f and g; every other row is as it was
--     odd_of n b t w l m          the products of n odd inputs of line l, from b on, with row m of a table of rows of n
--     evens, odds                the weights of inputs 0 and 2, and of 1 and 3, in column m of a table of rows of s
--     Room v a i out             rows a .. i - 1 are within 2^24 + v 2^26
--     Asks, Step                 what joining row m of the even half with its odd inputs asks and leaves
--     Half                       the products of the first eight of sixteen odd inputs
--     Started, Start             results m and z of the first four inputs: sums and differences of two products, by weights and by a table
--     Doubled h a i ..           rows a .. i - 1 of h have been joined: sums there, differences from the end
--     Begun s d h i ..           the same of the first i rows of the first four inputs
--     Sized n                    n is 4, 8, 16 or 32
--     Silent n live w            the numbers from live on are zero
--     Transformed n t d w out    in every line the first n numbers of out are the dense product of n numbers of w, d apart
use Rattle.std.specs.Prelude.{◌≡◌, List, [], ◌∷◌, ℕ, zero, suc, ◌+◌, ◌*◌, ◌-◌, ◌^◌, ◌≤◌, ◌<◌, ℤ, pos, nat_abs, ◌+ℤ◌, ◌-ℤ◌, length, get_or}
use Rattle.whole.specs.Sums.{tab, dot_z, dense_c, Within}

abbrev pub line : List ℤ → ℕ → ℕ → ℤ
line t l r = get_or t (r * 16 + l) (pos 0)

abbrev pub taps : ℕ → ℕ → ℕ → List ℤ → List ℤ
taps zero p d t = []
taps (suc n) p d t = get_or t p (pos 0) ∷ taps n (p + d) d t

-- sixteen numbers within b
abbrev pub Low : ℕ → (ℕ → ℤ) → Type 0
Low b f = (l : ℕ) → l < 16 → nat_abs (f l) ≤ b

abbrev pub Both : (ℕ → ℤ) → (ℕ → ℤ) → List ℤ → List ℤ → Type 0
Both f o lo hi = (lo ≡ tab 16 (λ l. f l +ℤ o l)) × (hi ≡ tab 16 (λ l. f l -ℤ o l)) × Low (2 ^ 26) o

pub record Written (m z : ℕ) (f g : ℕ → ℤ) (old new : List ℤ) : Type 0 where
  pub long : length new ≡ length old
  pub low : (l : ℕ) → l < 16 → line new l m ≡ f l
  pub high : (l : ℕ) → l < 16 → line new l z ≡ g l
  pub others : (l r : ℕ) → l < 16 → (r ≡ m → ⊥) → (r ≡ z → ⊥) → line new l r ≡ line old l r

abbrev pub odd_of : ℕ → ℕ → List ℤ → List ℤ → ℕ → ℕ → ℤ
odd_of n b t w l m = dot_z (taps n (m * n) 1 t) (taps n (b + l) (b + b) w)

-- the weights of inputs 0 and 2, and of 1 and 3, in column m of a table of rows of s
abbrev pub evens : ℕ → List ℤ → ℕ → List ℤ
evens s t m = get_or t m (pos 0) ∷ get_or t (m + s + s) (pos 0) ∷ []

abbrev pub odds : ℕ → List ℤ → ℕ → List ℤ
odds s t m = get_or t (m + s) (pos 0) ∷ get_or t (m + s + s + s) (pos 0) ∷ []

abbrev pub Room : ℕ → ℕ → ℕ → List ℤ → Type 0
Room v a i out = (l r : ℕ) → l < 16 → a ≤ r → r < i → nat_abs (line out l r) ≤ 2 ^ 24 + v * 2 ^ 26

pub record Asks (n b m z : ℕ) (out w t : List ℤ) : Type 0 where
  pub apart : m < z
  pub inside : z * 16 + 16 ≤ length out
  pub inputs : b + 15 + (n - 1) * (b + b) < length w
  pub weights : m * n + n ≤ length t
  pub small : Low (2 ^ 28) (λ l. line out l m)

abbrev pub Step : ℕ → ℕ → ℕ → ℕ → List ℤ → List ℤ → List ℤ → List ℤ → Type 0
Step n b m z w t old new =
    Written m z (λ l. line old l m +ℤ odd_of n b t w l m) (λ l. line old l m -ℤ odd_of n b t w l m) old new
    × Low (2 ^ 26) (λ l. odd_of n b t w l m)

abbrev pub Started : ℕ → ℕ → ℕ → List ℤ → List ℤ → List ℤ → List ℤ → List ℤ → Type 0
Started d m z w ks js old new =
    Written m z (λ l. dot_z ks (taps 2 l (d + d) w) +ℤ dot_z js (taps 2 (l + d) (d + d) w)) (λ l. dot_z ks (taps 2 l (d + d) w) -ℤ dot_z js (taps 2 (l + d) (d + d) w)) old new
    × Low (2 ^ 23) (λ l. dot_z ks (taps 2 l (d + d) w)) × Low (2 ^ 26) (λ l. dot_z js (taps 2 (l + d) (d + d) w))

abbrev pub Start : ℕ → ℕ → ℕ → ℕ → List ℤ → List ℤ → List ℤ → List ℤ → Type 0
Start s d m z w t old new = Started d m z w (evens s t m) (odds s t m) old new

abbrev pub Half : ℕ → ℕ → List ℤ → List ℤ → List ℤ → Type 0
Half b m w t r = (r ≡ tab 16 (λ l. dot_z (taps 8 (m * 16) 1 t) (taps 8 (b + l) (b + b) w))) × Within (2 ^ 25) r

pub record Doubled (h a i b : ℕ) (t w old new : List ℤ) : Type 0 where
  pub long : length new ≡ length old
  pub sums : (l r : ℕ) → l < 16 → a ≤ r → r < i → line new l r ≡ line old l r +ℤ odd_of h b t w l r
  pub differences : (l r : ℕ) → l < 16 → a ≤ r → r < i → line new l (h + h - 1 - r) ≡ line old l r -ℤ odd_of h b t w l r
  pub small : (l r : ℕ) → l < 16 → a ≤ r → r < i → nat_abs (odd_of h b t w l r) ≤ 2 ^ 26
  pub others : (l r : ℕ) → l < 16 → r < h → (a ≤ r → r < i → ⊥) → (line new l r ≡ line old l r) × (line new l (h + h - 1 - r) ≡ line old l (h + h - 1 - r))

pub record Begun (s d h i : ℕ) (t w old new : List ℤ) : Type 0 where
  pub long : length new ≡ length old
  pub sums : (l r : ℕ) → l < 16 → r < i → line new l r ≡ dot_z (evens s t r) (taps 2 l (d + d) w) +ℤ dot_z (odds s t r) (taps 2 (l + d) (d + d) w)
  pub differences : (l r : ℕ) → l < 16 → r < i → line new l (h + h - 1 - r) ≡ dot_z (evens s t r) (taps 2 l (d + d) w) -ℤ dot_z (odds s t r) (taps 2 (l + d) (d + d) w)
  pub small : (l r : ℕ) → l < 16 → r < i → nat_abs (dot_z (evens s t r) (taps 2 l (d + d) w)) + nat_abs (dot_z (odds s t r) (taps 2 (l + d) (d + d) w)) ≤ 2 ^ 24 + 1 * 2 ^ 26

pub data Sized : ℕ → Type 0 where
  s4 : Sized 4
  s8 : Sized 8
  s16 : Sized 16
  s32 : Sized 32

abbrev pub Silent : ℕ → ℕ → List ℤ → Type 0
Silent n live w = (l j : ℕ) → l < 16 → live ≤ j → j < n → line w l j ≡ pos 0

abbrev pub Transformed : ℕ → List ℤ → ℕ → List ℤ → List ℤ → Type 0
Transformed n t d w out = (l : ℕ) → l < 16 → tab n (line out l) ≡ dense_c n t (taps n l d w)
