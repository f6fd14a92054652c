-- Bytes that gain the results of the narrow passes. Assumes nothing.
--     byte-unseen                 the clamp of a residual can't be seen in a byte
--     held-group                  sixteen columns of a block
--     held-second, second-bytes   the next sixteen, after those were written
--     left-bytes, right-bytes     the first group, and the second beside it
--     sized-some, sized-two       a side is not 0; a side of two groups is 32
--     whole-bytes                 what the columns leave is the definition's
--     bytes_read                  the plane of bytes, by the plane of its numbers
use mathlib.Core.Path.{◌≡◌, refl, sym, ap, ◌∙◌, subst}
use mathlib.Core.Bool.{Bool, true, false, cond}
use mathlib.Core.List.{List, map}
use Prim.Native.Nat.{ℕ, ◌+◌, ◌*◌, ◌/◌, ◌%◌, ◌^◌, ◌≤◌, ◌<◌, zero-le}
use native.Mathlib.Nat as N
use native.Mathlib.Omega.{arith}
use borrow.Author.Tests.{le-leb}
use lib.Dec.{le→leb, lit<}
use lib.IntN.{ℤ, pos, nat_abs, ◌+ℤ◌}
use lib.ListN.{length, get_or, length-map, get_or-map}
use Rattle.whole.specs.Numbers.{clamp, round_shift, lowest}
use Rattle.whole.specs.Sums.{tab}
use Rattle.whole.specs.Grid.{cols_by, in_block}
use Rattle.whole.proofs.Fill.{tab-same}
use Rattle.octets.proofs.Lists.{map-tab}
use Rattle.tables.specs.Sizes.{cut}
use Rattle.passes.specs.Passes.{settled_to, block_of, middle_of}
use Rattle.pixels.specs.Pixels.{pixel_of}
use Rattle.wide_rows.specs.Lines.{Sized, s4, s8, s16, s32}
use Rattle.narrow.specs.Painted.{Painted}
use Rattle.narrow.proofs.Clamps.{unseen}
use Rattle.narrow.proofs.Paints.{paint-same, paint-done, beside-now}
use Rattle.fast.specs.Groups.{cell_of, dct_of}
use Rattle.fast.specs.Gains.{twice, group_of, residual8, gained_by, Narrow, Ready8}
use Rattle.fast.proofs.Gained.{side-some, first-column, second-column, group-column}
use Rattle.fast.proofs.Blocks.{side-dense}
use Rattle.byteplanes.specs.Bytes.{byte_of}
use Rattle.byteplanes.proofs.Small.{cut-whole}
use Rattle.quick_bytes.specs.Held.{Held, reached, reached_of, bytes_by}

pub byte-unseen : (p shift : ℕ) (e : ℤ) → p ≤ 255 → clamp (pos 0) (pos 255) (pos p +ℤ round_shift shift e) ≡ pixel_of 8 (pos p) (settled_to 8 shift e)
byte-unseen p shift e h = sym (unseen 255 (lowest 8) (pos p) (round_shift shift e) (record { le = le→leb 0 p zero-le }) (record { le = le→leb p 255 h }) (record { le = tt }))

-- ---- groups side by side
pub held-group : {stride h : ℕ} {dst : List ℕ} → Held 0 stride 32 h dst → Held 0 stride 16 h dst
held-group p = record { wide = omega (arith, p.wide); inside = λ y l. omega (arith, p.inside y l) }

module _ {stride h : ℕ} {f : ℕ → ℕ → ℕ} {dst mid : List ℕ} (p : Held 0 stride 32 h dst) (q : Painted 0 0 stride 16 h f dst mid) where
  pub held-second : Held 16 stride 16 h mid
  held-second = record { wide = omega (arith, p.wide); inside = λ y l. omega (arith, p.inside y l, q.long) }

  pub second-bytes : (y x : ℕ) → x < 16 → get_or mid (16 + y * stride + x) 0 ≡ get_or dst (0 + y * stride + (16 + x)) 0
  second-bytes y x l = beside-now 16 16 q refl p.wide y x l ∙ ap (λ i. get_or dst i 0) (at (y * stride) x)
    where
      at : (a x : ℕ) → 16 + a + x ≡ 0 + a + (16 + x)
      at a x = omega arith

module _ (dst : List ℕ) (stride h shift : ℕ) (work : List ℤ) where
  pub left-bytes : {v : ℕ} {old new : List ℕ} → v ≤ 16 → Painted 0 0 stride v h (reached_of dst 0 stride shift (cols_by (dct_of h) h (cell_of h work 0))) old new → Painted 0 0 stride v h (reached_of dst 0 stride shift (cols_by (dct_of h) h (group_of h work))) old new
  left-bytes few p =
      paint-same (λ y x a b. let k = first-column x (N.lt_of_lt_of_le b few) in
      ap (λ z. reached shift (get_or dst (0 + y * stride + x) 0) z) (group-column h work y x 0 x k.0 k.1)) p

  pub right-bytes : {mid new : List ℕ} → ((y x : ℕ) → x < 16 → get_or mid (16 + y * stride + x) 0 ≡ get_or dst (0 + y * stride + (16 + x)) 0)
      → Painted 0 16 stride 16 h (reached_of mid 16 stride shift (cols_by (dct_of h) h (cell_of h work 1))) mid new
      → Painted 0 16 stride 16 h (λ y x. reached_of dst 0 stride shift (cols_by (dct_of h) h (group_of h work)) y (16 + x)) mid new
  right-bytes same p =
      paint-same (λ y x a b. let k = second-column x b in
      ap (λ z. reached shift z (cols_by (dct_of h) h (cell_of h work 1) y x)) (same y x b)
      ∙ ap (λ z. reached shift (get_or dst (0 + y * stride + (16 + x)) 0) z) (group-column h work y (16 + x) 1 x k.0 k.1)) p

-- ---- the whole block
once : (n x : ℕ) → n ≤ 32 → x / 2 ^ twice n ≡ x
once n x h = ap (λ b. x / 2 ^ cond b 0 1) (le-leb n 32 h) ∙ N.div-one x

module _ (rowwise : Bool) {w h first : ℕ} (second : ℕ) {cs work : List ℤ} {live : ℕ} (p : Narrow w h first cs) (made : Ready8 rowwise w h first cs work live) (across : w ≤ 32) (down : h ≤ 32) where
  after : (r x : ℕ) → x < cut w → cols_by (dct_of (cut h)) (cut h) (group_of (cut h) work) r x ≡ block_of rowwise w h first 0 0 8 cs r x
  after r x b =
      ap (λ l. get_or (dct_of (cut h) l) r (pos 0)) (tab-same (cut h) (λ i. group_of (cut h) work i x) (λ i. middle_of rowwise w h first 0 8 cs i x) (λ i a. made.middle i x a b))
      ∙ ap (λ l. get_or l r (pos 0)) (side-dense p.down (tab (cut h) (λ i. middle_of rowwise w h first 0 8 cs i x)))

  result-is : (y x : ℕ) → x < w → cols_by (dct_of h) h (group_of h work) y x ≡ block_of rowwise w h first 0 0 8 cs (y / 2 ^ twice h) (x / 2 ^ twice w)
  result-is y x b =
      ap (λ n. cols_by (dct_of n) n (group_of n work) y x) (sym (cut-whole h down)) ∙ after y x (subst (λ (n : ℕ). x < n) (sym (cut-whole w across)) b)
      ∙ ap (λ r. block_of rowwise w h first 0 0 8 cs r x) (sym (once h y down)) ∙ ap (λ z. block_of rowwise w h first 0 0 8 cs (y / 2 ^ twice h) z) (sym (once w x across))

  pub whole-bytes : {stride : ℕ} (dst new : List ℕ) → Held 0 stride w h dst → Painted 0 0 stride w h (reached_of dst 0 stride second (cols_by (dct_of h) h (group_of h work))) dst new → new ≡ bytes_by w h (residual8 rowwise w h first second cs) dst stride
  whole-bytes {stride} dst new held q =
      paint-done h settled refl held.wide (side-some p.across)
      ∙ tab-same (length dst) _ _ (λ i l. ap (λ j. cond (in_block stride w h i) (byte_of (get_or dst j 0) (R (i / stride) (i % stride))) (get_or dst i 0)) (flat (i / stride * stride) (i % stride) ∙ N.div-add-mod' i stride))
    where
      R : ℕ → ℕ → ℤ
      R = residual8 rowwise w h first second cs

      flat : (a x : ℕ) → 0 + a + x ≡ a + x
      flat a x = omega arith

      settled : Painted 0 0 stride w h (λ y x. byte_of (get_or dst (0 + y * stride + x) 0) (residual8 rowwise w h first second cs y x)) dst new
      settled = paint-same (λ y x a b. ap (λ z. reached second (get_or dst (0 + y * stride + x) 0) z) (result-is y x b)) q

pub bytes_read : (w h : ℕ) (R : ℕ → ℕ → ℤ) (dst : List ℕ) (stride : ℕ) → bytes_by w h R dst stride ≡ map nat_abs (gained_by w h R (map pos dst) stride)
bytes_read w h R dst stride =
    sym (map-tab nat_abs (length (map pos dst)) _
    ∙ ap (λ n. tab n (λ i. nat_abs (cond (in_block stride w h i) (pixel_of 8 (get_or (map pos dst) i (pos 0)) (R (i / stride) (i % stride))) (get_or (map pos dst) i (pos 0))))) (length-map dst pos)
    ∙ tab-same (length dst) _ _ (λ i l. by_place i (in_block stride w h i)))
  where
    by_place : (i : ℕ) (t : Bool) → nat_abs (cond t (pixel_of 8 (get_or (map pos dst) i (pos 0)) (R (i / stride) (i % stride))) (get_or (map pos dst) i (pos 0))) ≡ cond t (byte_of (get_or dst i 0) (R (i / stride) (i % stride))) (get_or dst i 0)
    by_place i true = ap (λ z. nat_abs (pixel_of 8 z (R (i / stride) (i % stride)))) (get_or-map pos dst i 0)
    by_place i false = ap nat_abs (get_or-map pos dst i 0)

-- ---- sides
pub sized-some : {n : ℕ} → Sized n → 0 < n
sized-some s4 = lit< tt
sized-some s8 = lit< tt
sized-some s16 = lit< tt
sized-some s32 = lit< tt

pub sized-two : {n : ℕ} → Sized n → 16 < n → n ≡ 32
sized-two s4 h = absurd (omega arith)
sized-two s8 h = absurd (omega arith)
sized-two s16 h = absurd (omega arith)
sized-two s32 h = refl
