-- The narrow passes one after the other are the passes of the definition, at depth 8. Assumes nothing.
--     side-dense, side-fours        the DCT of a side; a side has rows in fours
--     seen-shown                    samples of depth 8 are not larger than 4,096
--     ready-run                     the work area holds what the rows leave, and its dead rows are 0
--     whole-block                   what the columns leave is the definition's; the clamp of a residual can't be seen
--     lent-clear                    arrays that are cleared, of W numbers for the groups and T for the lines and the results
--     few-columns, more-columns     the room that one group takes, and two
use mathlib.Core.Path.{◌≡◌, refl, sym, ap, ◌∙◌, subst}
use mathlib.Core.Logic.{◌⊎◌, inl, inr}
use mathlib.Core.Bool.{Bool, true, cond}
use mathlib.Core.List.{List}
use Prim.Native.Nat.{ℕ, zero, suc, ◌+◌, ◌*◌, ◌/◌, ◌%◌, ◌^◌, ◌≤◌, ◌<◌, zero-le}
use native.Mathlib.Nat as N
use native.Mathlib.Omega.{arith}
use lib.Dec.{lit≤}
use lib.IntN.{ℤ, pos, nat_abs, ◌+ℤ◌}
use lib.ListN.{length, get_or, replicate}
use Rattle.whole.specs.Numbers.{in_range, clamp, round_shift, lowest, highest}
use Rattle.whole.specs.Sums.{tab}
use Rattle.whole.specs.Grid.{cols_by, in_block}
use Rattle.whole.proofs.Cells.{under}
use Rattle.whole.proofs.Fill.{length-tab, tab-at, tab-same}
use Rattle.whole.proofs.Range.{in-range-size, in-range-ends}
use Rattle.tables.specs.Sizes.{cut, scaled}
use Rattle.tables.specs.Dense.{dense_of}
use Rattle.tables.proofs.First.{past, dense-zero}
use Rattle.passes.specs.Passes.{loaded, settled_to, block_of, middle_of, Dead}
use Rattle.passes.proofs.Living.{entry_zero, settled-zero, zero-loaded}
use Rattle.narrow.specs.Painted.{Painted}
use Rattle.narrow.proofs.Clamps.{unseen}
use Rattle.narrow.proofs.Paints.{paint-same, paint-done}
use Rattle.fast.specs.Groups.{cell_of, Area, Grouped, dct_of, after_rows}
use Rattle.fast.specs.Gains.{gain_of, Side, d8, d16, d32, d64, twice, residual_by, gains_of, Shown, group_of, residual8, Narrow, Seen, Lent8, Room8, Ready8}
use Rattle.fast.proofs.Gained.{side-below, side-some}

pub side-dense : {n : ℕ} → Side n → (xs : List ℤ) → dct_of (cut n) xs ≡ dense_of n 0 xs
unfolding dense_of
side-dense d8 xs = refl
side-dense d16 xs = refl
side-dense d32 xs = refl
side-dense d64 xs = refl

pub side-fours : {n : ℕ} → Side n → (4 ≤ cut n) × (cut n ≤ 32) × (cut n % 4 ≡ 0)
side-fours d8 = (lit≤ tt, lit≤ tt, refl)
side-fours d16 = (lit≤ tt, lit≤ tt, refl)
side-fours d32 = (lit≤ tt, lit≤ tt, refl)
side-fours d64 = (lit≤ tt, lit≤ tt, refl)

pub seen-shown : {w h stride : ℕ} {dst : List ℤ} → Seen w h stride dst → Shown 0 stride w h dst
seen-shown {w} {h} {stride} {dst} p = record {
  wide = p.wide;
  inside = λ y l. omega (arith, p.inside y l);
  small = λ y x l m. subst (λ (i : ℕ). nat_abs (get_or dst i (pos 0)) ≤ 4096) (sym (flat (y * stride) x)) (N.le_trans (in-range-size 255 (pos 0) (pos 255) (get_or dst (y * stride + x) (pos 0)) zero-le (N.le_refl 255) (p.samples y x l m)) (lit≤ tt));
}
  where
    flat : (a x : ℕ) → 0 + a + x ≡ a + x
    flat a x = omega arith

-- ---- after the rows
module _ (rowwise : Bool) {w h first : ℕ} {cs : List ℤ} (p : Narrow w h first cs) (cols rows : ℕ) (old work : List ℤ) (clear : (i : ℕ) → get_or old i (pos 0) ≡ pos 0)
    (most : rows ≤ cut h) (dead : Dead rowwise (cut w) (cut h) cols rows cs)
    (made : Grouped (cut w) (cut h) 0 rows (after_rows (cut w) first (loaded rowwise (scaled w h) 8 (cut w) (cut h) cs)) old work) where
  abbrev g : ℕ → ℕ → ℤ
  g = loaded rowwise (scaled w h) 8 (cut w) (cut h) cs

  -- a dead row of the definition
  row-empty : (r : ℕ) → rows ≤ r → r < cut h → (i : ℕ) → get_or (tab (cut w) (g r)) i (pos 0) ≡ pos 0
  row-empty r a b i = go (under (cut w) i)
    where
      go : ((cut w ≤ i) ⊎ (i < cut w)) → get_or (tab (cut w) (g r)) i (pos 0) ≡ pos 0
      go (inl z) = past (tab (cut w) (g r)) i (subst (λ (n : ℕ). n ≤ i) (sym (length-tab (cut w) (g r))) z)
      go (inr z) = tab-at (pos 0) (cut w) (g r) i z ∙ zero-loaded rowwise (scaled w h) 8 (cut w) (cut h) cols rows cs dead (entry_zero (scaled w h) 8 (lit≤ tt)) r i b z (inl a)

  middle : (r x : ℕ) → after_rows (cut w) first g r x ≡ middle_of rowwise w h first 0 8 cs r x
  middle r x = ap (λ l. settled_to 15 first (get_or l x (pos 0))) (side-dense p.across (tab (cut w) (g r)))

  middle-empty : (r x : ℕ) → rows ≤ r → r < cut h → middle_of rowwise w h first 0 8 cs r x ≡ pos 0
  middle-empty r x a b = ap (settled_to 15 first) (dense-zero w 0 (tab (cut w) (g r)) (row-empty r a b) x) ∙ settled-zero 8 first (lit≤ tt) p.before

  -- a dead row of the work area
  first-empty : (q r m : ℕ) → m < 16 → 16 * q < cut w → rows ≤ r → r < cut h → cell_of (cut h) work q r m ≡ pos 0
  first-empty q r m a b c d = made.others q r m a b d (inr (omega arith)) ∙ clear ((q * cut h + r) * 16 + m)

  first-middle : (r x : ℕ) → r < cut h → x < cut w → group_of (cut h) work r x ≡ middle_of rowwise w h first 0 8 cs r x
  first-middle r x a b = go (under rows r)
    where
      whole : (x : ℕ) → 16 * (x / 16) + x % 16 ≡ x
      whole x = omega arith

      few : (x : ℕ) → x % 16 < 16
      few x = omega arith

      flat : (a r m : ℕ) → (a + (0 + r)) * 16 + m ≡ (a + r) * 16 + m
      flat a r m = omega arith

      go : ((rows ≤ r) ⊎ (r < rows)) → group_of (cut h) work r x ≡ middle_of rowwise w h first 0 8 cs r x
      go (inl c) = first-empty (x / 16) r (x % 16) (few x) (omega arith) c a ∙ sym (middle-empty r x c a)
      go (inr c) =
          ap (λ i. get_or work i (pos 0)) (sym (flat (x / 16 * cut h) r (x % 16))) ∙ made.holds (x / 16) r (x % 16) (few x) (subst (λ (n : ℕ). n < cut w) (sym (whole x)) b) c
          ∙ ap (λ z. after_rows (cut w) first g r z) (whole x) ∙ middle r x

  ready-block : Area (cut w) (cut h) old → Ready8 rowwise w h first cs work rows
  ready-block room = record { most = most; area = λ q l. omega (arith, room q l, made.long); middle = first-middle; empty = first-empty }

-- the same, where the sides and the scaling are results of calls
module _ (rowwise : Bool) {w h first : ℕ} {cs : List ℤ} (p : Narrow w h first cs) (cols rows : ℕ) (old work : List ℤ) (clear : (i : ℕ) → get_or old i (pos 0) ≡ pos 0) (room : Area (cut w) (cut h) old) where
  abbrev Known : ℕ → ℕ → Bool → Type 0
  Known sw sh scale = (rows ≤ sh) × Dead rowwise sw sh cols rows cs × Grouped sw sh 0 rows (after_rows sw first (loaded rowwise scale 8 sw sh cs)) old work

  pub ready-run : (sw sh : ℕ) (scale : Bool) → sw ≡ cut w → sh ≡ cut h → scale ≡ scaled w h → (rows ≤ sh) × Dead rowwise sw sh cols rows cs × Grouped sw sh 0 rows (after_rows sw first (loaded rowwise scale 8 sw sh cs)) old work → Ready8 rowwise w h first cs work rows
  ready-run sw sh scale a b c k =
      let k1 = subst (λ (z : ℕ). Known z sh scale) a k in
      let k2 = subst (λ (z : ℕ). Known (cut w) z scale) b k1 in
      let k3 = subst (λ (z : Bool). Known (cut w) (cut h) z) c k2 in
      ready-block rowwise p cols rows old work clear k3.0 k3.1 k3.2 room

-- ---- after the columns: K is what becomes of a pixel of depth 8, P what the residuals are added to
module _ {A : Type 0} (d : A) (K : ℤ → A) (rowwise : Bool) {w h first : ℕ} (second : ℕ) {cs work : List ℤ} {live : ℕ} (p : Narrow w h first cs) (made : Ready8 rowwise w h first cs work live) where
  after : (r x : ℕ) → x < cut w → cols_by (dct_of (cut h)) (cut h) (group_of (cut h) work) r x ≡ block_of rowwise w h first 0 0 8 cs r x
  after r x b =
      ap (λ l. get_or (dct_of (cut h) l) r (pos 0)) (tab-same (cut h) (λ i. group_of (cut h) work i x) (λ i. middle_of rowwise w h first 0 8 cs i x) (λ i a. made.middle i x a b))
      ∙ ap (λ l. get_or l r (pos 0)) (side-dense p.down (tab (cut h) (λ i. middle_of rowwise w h first 0 8 cs i x)))

  -- a residual that is not clamped, and one that is
  unclamped : (s z : ℤ) → in_range (pos 0) (pos 255) s ≡ true → gain_of s (round_shift second z) ≡ gain_of s (settled_to 8 second z)
  unclamped s z e = let b = in-range-ends (pos 0) (pos 255) s e in sym (unseen 255 (lowest 8) s (round_shift second z) b.0 b.1 (record { le = tt }))

  module _ {stride : ℕ} {P : List ℤ} (old new : List A) (seen : Seen w h stride P) where
    abbrev R : ℕ → ℕ → ℤ
    R = residual8 rowwise w h first second cs

    flat : (a x : ℕ) → 0 + a + x ≡ a + x
    flat a x = omega arith

    pub whole-block : (sh across down : ℕ) → sh ≡ cut h → across ≡ twice w → down ≡ twice h
        → Painted d 0 stride w h (λ y x. K (gains_of P 0 stride (residual_by second across down (cols_by (dct_of sh) sh (group_of sh work))) y x)) old new
        → new ≡ tab (length old) (λ i. cond (in_block stride w h i) (K (clamp (pos 0) (highest 8) (get_or P i (pos 0) +ℤ R (i / stride) (i % stride)))) (get_or old i d))
    whole-block sh across down a b c q =
        paint-done h settled refl seen.wide (side-some p.across)
        ∙ tab-same (length old) _ _ (λ i l. ap (λ j. cond (in_block stride w h i) (K (gain_of (get_or P j (pos 0)) (R (i / stride) (i % stride)))) (get_or old i d)) (flat (i / stride * stride) (i % stride) ∙ N.div-add-mod' i stride))
      where
        At : ℕ → ℕ → ℕ → Type 0
        At sh across down = Painted d 0 stride w h (λ y x. K (gains_of P 0 stride (residual_by second across down (cols_by (dct_of sh) sh (group_of sh work))) y x)) old new

        at-sides : At (cut h) (twice w) (twice h)
        at-sides = subst (λ (z : ℕ). At (cut h) (twice w) z) c (subst (λ (z : ℕ). At (cut h) z down) b (subst (λ (z : ℕ). At z across down) a q))

        settled : Painted d 0 stride w h (λ y x. K (gains_of P 0 stride R y x)) old new
        settled =
            paint-same
            (λ y x a b. ap K
            (ap (λ z. gain_of (get_or P (0 + y * stride + x) (pos 0)) (round_shift second z)) (after (y / 2 ^ twice h) (x / 2 ^ twice w) (side-below p.across x b))
            ∙ unclamped (get_or P (0 + y * stride + x) (pos 0)) (block_of rowwise w h first 0 0 8 cs (y / 2 ^ twice h) (x / 2 ^ twice w)) (subst (λ (i : ℕ). in_range (pos 0) (pos 255) (get_or P i (pos 0)) ≡ true) (sym (flat (y * stride) x)) (seen.samples y x a b))))
            at-sides

-- ---- areas that are cleared
abbrev pub zeros : ℕ → List ℤ
zeros n = replicate n (pos 0)

zero-count : (n : ℕ) → length (zeros n) ≡ n
zero-count zero = refl
zero-count (suc n) = ap suc (zero-count n)

zero-at : (n i : ℕ) → get_or (zeros n) i (pos 0) ≡ pos 0
zero-at zero i = refl
zero-at (suc n) zero = refl
zero-at (suc n) (suc i) = zero-at n i

side_cut : {n : ℕ} → Side n → cut n ≤ n
side_cut d8 = lit≤ tt
side_cut d16 = lit≤ tt
side_cut d32 = lit≤ tt
side_cut d64 = lit≤ tt

pub lent-clear : {w h W T : ℕ} → Room8 w h W T → Lent8 w h (zeros W) (zeros T) (zeros T)
lent-clear {w} {h} {W} {T} p = record {
  lines = omega (arith, zero-count T, p.lines);
  results = omega (arith, zero-count T, p.lines);
  others = omega (arith, zero-count T, p.others);
  area = λ k l. subst (λ (n : ℕ). (k * cut h + cut h) * 16 ≤ n) (sym (zero-count W)) (p.area k l);
  clear = zero-at W;
  silent = zero-at T;
}

pub few-columns : {w h : ℕ} (n : ℕ) → Side w → Side h → w ≤ n → h ≤ n → n ≤ 16 → Room8 w h (n * 16) (n * 16)
few-columns {w} {h} n s t a b c =
    let x : cut w ≤ n = N.le_trans (side_cut s) a in
    let y : cut h ≤ n = N.le_trans (side_cut t) b in
    record { lines = omega arith; others = omega arith; area = λ q l. subst (λ (z : ℕ). (z * cut h + cut h) * 16 ≤ n * 16) (sym (none q l x)) (omega arith); most = omega arith; each = omega arith }
  where
    none : (q : ℕ) → 16 * q < cut w → cut w ≤ n → q ≡ 0
    none q l x = omega arith

pub more-columns : {w h : ℕ} → Side w → Side h → Room8 w h 1024 512
more-columns {w} {h} s t =
    let x : cut w ≤ 32 = (side-fours s).1 in
    let y : cut h ≤ 32 = (side-fours t).1 in
    record { lines = omega arith; others = omega arith; area = λ q l. omega (arith, N.mul-le-mul_right (cut h) (one q l x)); most = omega arith; each = omega arith }
  where
    one : (q : ℕ) → 16 * q < cut w → cut w ≤ 32 → q ≤ 1
    one q l x = omega arith
