-- Numbers as bytes. Assumes nothing.
--     chunk-num             a chunk of four bytes, as `from_le_bytes` reads it, is the number there
--     word-read             eight bytes, as `from_le_bytes` reads them, are the word there
--     put-four, put-eight   bytes copied to a place, as `to_le_bytes` made them, put the number there
--     num-back              what is put into four bytes is read from them
--     nums-more, nums-done  a loop that puts a list of numbers: one more, and none left
use mathlib.Core.Path.{◌≡◌, refl, sym, ap, ◌∙◌}
use mathlib.Core.List.{List, [], ◌∷◌, ◌++◌}
use Prim.Native.Nat.{ℕ, zero, suc, ◌-◌, ◌+◌, ◌*◌, ◌/◌, ◌%◌, ◌≤◌, ◌<◌}
use native.Mathlib.Nat.{add-zero, div-div-eq-div-mul, div-add-mod'}
use native.Mathlib.Numerals.{add-one}
use native.Mathlib.Omega.{arith}
use lib.IntN.{ℤ, pos}
use lib.ListN.{length, get_or, set, take, drop, length-set, drop_of_length-le}
use lib.Seq.{drop-cons, drop-drop, get_or-set_same, get_or-set_other}
use mir.Syntax.{w32, w64}
use mir.Val.{of_z}
use borrow.Rule.Slice.PartMut.{put_mid}
use Rattle.std.specs.Int.{from_le_bytes, to_le_bytes}
use Rattle.std.specs.Simd.{first_chunks}
use Rattle.std.proofs.lemmas.List.{get_or-drop, get_or-take}
use Rattle.stream.specs.Bytes.{joined, num_at, word_at, num_put, word_put, nums_put}

-- the four bytes of a number, and the number
whole : (n : ℕ) → n < 4294967296 → joined (n % 256) (n / 256 % 256) (n / 65536 % 256) (n / 16777216 % 256) ≡ n
whole n h =
    rw top
    (sum (n % 256) (n / 256 % 256) (n / 65536 % 256) (n / 16777216) (n / 65536) (n / 256) n (div-add-mod' n 256)
    (ap (λ q. q * 256 + n / 256 % 256) (sym (div-div-eq-div-mul n 256 256)) ∙ div-add-mod' (n / 256) 256)
    (ap (λ q. q * 256 + n / 65536 % 256) (sym (div-div-eq-div-mul n 65536 256)) ∙ div-add-mod' (n / 65536) 256))
  where
    top : n / 16777216 % 256 ≡ n / 16777216
    top = omega arith

    sum : (a b c d e f n : ℕ) → f * 256 + a ≡ n → e * 256 + b ≡ f → d * 256 + c ≡ e → joined a b c d ≡ n
    sum a b c d e f n x y z = omega arith

module _ (b : List ℕ) (at p q r s : ℕ) (h : at + 4 ≤ length b) where
  abbrev one : List ℕ
  one = set b at p

  abbrev two : List ℕ
  two = set one (at + 1) q

  abbrev three : List ℕ
  three = set two (at + 2) r

  abbrev four : List ℕ
  four = set three (at + 3) s

  at-0 : get_or four at 0 ≡ p
  at-0 =
      get_or-set_other three (at + 3) at s 0 (λ e. absurd (omega arith))
      ∙ get_or-set_other two (at + 2) at r 0 (λ e. absurd (omega arith))
      ∙ get_or-set_other one (at + 1) at q 0 (λ e. absurd (omega arith))
      ∙ get_or-set_same b at p 0 (omega arith)

  at_1 : get_or four (at + 1) 0 ≡ q
  at_1 =
      get_or-set_other three (at + 3) (at + 1) s 0 (λ e. absurd (omega arith))
      ∙ get_or-set_other two (at + 2) (at + 1) r 0 (λ e. absurd (omega arith))
      ∙ get_or-set_same one (at + 1) q 0 (simp length-set (omega arith))

  at-2 : get_or four (at + 2) 0 ≡ r
  at-2 =
      get_or-set_other three (at + 3) (at + 2) s 0 (λ e. absurd (omega arith))
      ∙ get_or-set_same two (at + 2) r 0 (simp length-set (omega arith))

  at-3 : get_or four (at + 3) 0 ≡ s
  at-3 = get_or-set_same three (at + 3) s 0 (simp length-set (omega arith))

pub num-back : (b : List ℕ) (at n : ℕ) → at + 4 ≤ length b → n < 4294967296 → num_at (num_put b at n) at ≡ n
unfolding num_at num_put
num-back b at n h l =
    rw (
      at-0 b at (n % 256) (n / 256 % 256) (n / 65536 % 256) (n / 16777216 % 256) h,
      at_1 b at (n % 256) (n / 256 % 256) (n / 65536 % 256) (n / 16777216 % 256) h,
      at-2 b at (n % 256) (n / 256 % 256) (n / 65536 % 256) (n / 16777216 % 256) h,
      at-3 b at (n % 256) (n / 256 % 256) (n / 65536 % 256) (n / 16777216 % 256) h,
    )
    (whole n l)

module _ (b : List ℕ) (zs : List ℤ) (i : ℕ) where
  pub nums-more : i < length zs
      → nums_put b (4 * i) (drop i zs) ≡ nums_put (num_put b (4 * i) (of_z w32 (get_or zs i (pos 0)))) (4 * (i + 1)) (drop (i + 1) zs)
  nums-more h =
      let next : 4 * i + 4 ≡ 4 * (i + 1) = omega arith in
      ap (nums_put b (4 * i)) (drop-cons zs i (pos 0) h) ∙ rw (← next, add-one)

  pub nums-done : length zs ≤ i → nums_put b (4 * i) (drop i zs) ≡ b
  nums-done h = ap (nums_put b (4 * i)) (drop_of_length-le zs h)

chunk : (k c : ℕ) (b d : List ℕ) → k < c → get_or (first_chunks 4 c b) k d ≡ take 4 (drop (4 * k) b)
chunk k zero b d h = absurd (omega arith)
chunk zero (suc c) b d h = refl
chunk (suc k) (suc c) b d h =
    let e : 4 + 4 * k ≡ 4 * suc k = omega arith in
    chunk k c (drop 4 b) d (omega arith) ∙ ap (take 4) (drop-drop (4 * k) 4 b ∙ ap (λ j. drop j b) e)

le-num : (b : List ℕ) (at : ℕ) → from_le_bytes w32 (take 4 (drop at b)) ≡ num_at b at
unfolding num_at
le-num b at =
    let e : (i : ℕ) → i < 4 → get_or (take 4 (drop at b)) i 0 ≡ get_or b (at + i) 0 = λ i h. get_or-take 4 (drop at b) i 0 h ∙ get_or-drop at b i 0 in
    omega (arith, e 0 (omega arith), e 1 (omega arith), e 2 (omega arith), e 3 (omega arith), ap (λ j. get_or b j 0) (add-zero at))

pub chunk-num : (n c k : ℕ) (b d : List ℕ) → k < n → n ≤ c → from_le_bytes w32 (get_or (take n (first_chunks 4 c b)) k d) ≡ num_at b (4 * k)
chunk-num n c k b d h l =
    ap (from_le_bytes w32) (get_or-take n (first_chunks 4 c b) k d h ∙ chunk k c b d (omega arith)) ∙ le-num b (4 * k)

le-word : (b : List ℕ) (at : ℕ) → from_le_bytes w64 (take 8 (drop at b)) ≡ word_at b at
unfolding num_at
le-word b at =
    let e : (i : ℕ) → i < 8 → get_or (take 8 (drop at b)) i 0 ≡ get_or b (at + i) 0 = λ i h. get_or-take 8 (drop at b) i 0 h ∙ get_or-drop at b i 0 in
    let five : at + 4 + 1 ≡ at + 5 = omega arith in
    let six : at + 4 + 2 ≡ at + 6 = omega arith in
    let seven : at + 4 + 3 ≡ at + 7 = omega arith in
    rw (five, six, seven)
    (omega (arith, e 0 (omega arith), e 1 (omega arith), e 2 (omega arith), e 3 (omega arith), e 4 (omega arith), e 5 (omega arith), e 6 (omega arith), e 7 (omega arith), ap (λ j. get_or b j 0) (add-zero at)))

pub word-read : (b : List ℕ) (at : ℕ) {l : List ℕ} → l ≡ take (at + 8 - at) (drop at b) → from_le_bytes w64 l ≡ word_at b at
word-read b at {l} e =
    let k : at + 8 - at ≡ 8 = omega arith in
    ap (from_le_bytes w64) (e ∙ ap (λ j. take j (drop at b)) k) ∙ le-word b at

over : (a : ℕ) (b : List ℕ) (p q r s : ℕ) → a + 4 ≤ length b
    → take a b ++ ((p ∷ q ∷ r ∷ s ∷ []) ++ drop (suc (suc (suc (suc a)))) b) ≡ set (set (set (set b a p) (suc a) q) (suc (suc a)) r) (suc (suc (suc a))) s
over a [] p q r s h = absurd (omega arith)
over zero (v ∷ []) p q r s h = absurd (omega arith)
over zero (v ∷ w ∷ []) p q r s h = absurd (omega arith)
over zero (v ∷ w ∷ x ∷ []) p q r s h = absurd (omega arith)
over zero (v ∷ w ∷ x ∷ y ∷ b) p q r s h = refl
over (suc a) (v ∷ b) p q r s h = ap (λ l. v ∷ l) (over a b p q r s (omega arith))

pub put-four : (b : List ℕ) (at m n : ℕ) {ys : List ℕ} → at + 4 ≤ length b
    → ys ≡ to_le_bytes w32 m → m ≡ n → put_mid at (at + 4 - at) b ys ≡ num_put b at n
unfolding num_put
put-four b at m n {ys} h e f =
    let k : at + 4 - at ≡ 4 = omega arith in
    let one : at + 1 ≡ suc at = omega arith in
    let two : at + 2 ≡ suc (suc at) = omega arith in
    let three : at + 3 ≡ suc (suc (suc at)) = omega arith in
    let end : at + 4 ≡ suc (suc (suc (suc at))) = omega arith in
    rw (one, two, three)
    (ap (λ j. take at b ++ (ys ++ drop j (drop at b))) k
    ∙ ap (λ l. take at b ++ (ys ++ l)) (drop-drop 4 at b ∙ ap (λ j. drop j b) end)
    ∙ ap (λ l. take at b ++ (l ++ drop (suc (suc (suc (suc at)))) b)) (e ∙ ap (to_le_bytes w32) f)
    ∙ over at b (n % 256) (n / 256 % 256) (n / 65536 % 256) (n / 16777216 % 256) h)

-- a place some places further on
abbrev on : ℕ → ℕ → ℕ
on zero a = a
on (suc k) a = suc (on k a)

-- the same of eight
over-eight : (a : ℕ) (b : List ℕ) (p q r s t u v w : ℕ) → a + 8 ≤ length b
    → take a b ++ ((p ∷ q ∷ r ∷ s ∷ t ∷ u ∷ v ∷ w ∷ []) ++ drop (on 8 a) b)
    ≡ set (set (set (set (set (set (set (set b a p) (on 1 a) q) (on 2 a) r) (on 3 a) s) (on 4 a) t) (on 5 a) u) (on 6 a) v) (on 7 a) w
over-eight a [] p q r s t u v w h = absurd (omega arith)
over-eight zero (_ ∷ []) p q r s t u v w h = absurd (omega arith)
over-eight zero (_ ∷ _ ∷ []) p q r s t u v w h = absurd (omega arith)
over-eight zero (_ ∷ _ ∷ _ ∷ []) p q r s t u v w h = absurd (omega arith)
over-eight zero (_ ∷ _ ∷ _ ∷ _ ∷ []) p q r s t u v w h = absurd (omega arith)
over-eight zero (_ ∷ _ ∷ _ ∷ _ ∷ _ ∷ []) p q r s t u v w h = absurd (omega arith)
over-eight zero (_ ∷ _ ∷ _ ∷ _ ∷ _ ∷ _ ∷ []) p q r s t u v w h = absurd (omega arith)
over-eight zero (_ ∷ _ ∷ _ ∷ _ ∷ _ ∷ _ ∷ _ ∷ []) p q r s t u v w h = absurd (omega arith)
over-eight zero (_ ∷ _ ∷ _ ∷ _ ∷ _ ∷ _ ∷ _ ∷ _ ∷ b) p q r s t u v w h = refl
over-eight (suc a) (x ∷ b) p q r s t u v w h = ap (λ l. x ∷ l) (over-eight a b p q r s t u v w (omega arith))

-- the bytes of a word's lower half
low : (n : ℕ) → (n % 4294967296 % 256 ≡ n % 256) × (n % 4294967296 / 256 % 256 ≡ n / 256 % 256) × (n % 4294967296 / 65536 % 256 ≡ n / 65536 % 256)
    × (n % 4294967296 / 16777216 % 256 ≡ n / 16777216 % 256)
low n = (omega arith, omega arith, omega arith, omega arith)

-- and all its bytes, by its halves
halves : (n : ℕ) → to_le_bytes w64 n ≡ to_le_bytes w32 (n % 4294967296) ++ to_le_bytes w32 (n / 4294967296 % 4294967296)
halves n =
    let l = low n in
    let h = low (n / 4294967296) in
    let up : (p : ℕ) → n / 4294967296 / p % 256 ≡ n / (4294967296 * p) % 256 = λ p. ap (λ m. m % 256) (div-div-eq-div-mul n 4294967296 p) in
    sym (λ i. l.0 i ∷ l.1 i ∷ l.2 i ∷ l.3 i ∷ h.0 i ∷ (h.1 ∙ up 256) i ∷ (h.2 ∙ up 65536) i ∷ (h.3 ∙ up 16777216) i ∷ [])

pub put-eight : (b : List ℕ) (at n : ℕ) {ys : List ℕ} → at + 8 ≤ length b → ys ≡ to_le_bytes w64 n → put_mid at (at + 8 - at) b ys ≡ word_put b at n
unfolding num_put
put-eight b at n {ys} h e =
    let k : at + 8 - at ≡ 8 = omega arith in
    let one : at + 1 ≡ on 1 at = omega arith in
    let two : at + 2 ≡ on 2 at = omega arith in
    let three : at + 3 ≡ on 3 at = omega arith in
    let four : at + 4 ≡ on 4 at = omega arith in
    let five : at + 4 + 1 ≡ on 5 at = omega arith in
    let six : at + 4 + 2 ≡ on 6 at = omega arith in
    let seven : at + 4 + 3 ≡ on 7 at = omega arith in
    let end : at + 8 ≡ on 8 at = omega arith in
    rw (five, six, seven, four, one, two, three)
    (ap (λ j. take at b ++ (ys ++ drop j (drop at b))) k
    ∙ ap (λ l. take at b ++ (ys ++ l)) (drop-drop 8 at b ∙ ap (λ j. drop j b) end)
    ∙ ap (λ l. take at b ++ (l ++ drop (on 8 at) b)) (e ∙ halves n)
    ∙ over-eight at b _ _ _ _ _ _ _ _ h)
