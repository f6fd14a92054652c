-- Results that a picture gains. Assumes nothing.
--     row-gained          a row that a callee made of its samples and a row of results
--     cell-lent           a group of the work area, as it is lent
--     front_long          a list whose front a callee rewrote is as long as it was
--     unrounded           a shift by 0 changes nothing
--     rounded-small       rounding leaves room below 2^30
--     side-sized, side-below, side-some     the sides of a block
--     narrow-side, half-side                a side of at most sixteen results; half of a larger one
--     group-column                          column m of group q is column x of the block
--     strip-once, strip-twice               a block and the results of its group
--     left-columns, right-columns           the first group, and the second beside it
--     shown-half, second-now, shown-second  half of a picture, and the other half after that was written
use mathlib.Core.Path.{◌≡◌, refl, sym, ap, ◌∙◌, subst}
use mathlib.Core.List.{List, ◌++◌}
use Prim.Native.Nat.{ℕ, ◌+◌, ◌*◌, ◌/◌, ◌%◌, ◌^◌, ◌≤◌, ◌<◌}
use native.Mathlib.Nat as N
use native.Mathlib.Omega.{arith}
use lib.Dec.{lit<, lit≤}
use lib.IntN.{ℤ, pos, negsuc, nat_abs, ◌+ℤ◌, +ℤ_idr}
use lib.ListN.{length, get_or, take, drop, length-take, length-drop, length-append}
use lib.Pow.{pow_mono}
use Rattle.whole.specs.Numbers.{clamp, round_shift, floor_div}
use Rattle.whole.specs.Sums.{tab}
use Rattle.whole.specs.Grid.{cols_by}
use Rattle.whole.proofs.Fill.{tab-at}
use Rattle.whole.proofs.Range.{round-size}
use Rattle.whole.proofs.Lent.{lent, lent_at}
use Rattle.tables.specs.Sizes.{cut}
use Rattle.wide_rows.specs.Lines.{line, Sized, s8, s16, s32}
use Rattle.narrow.specs.Painted.{Painted}
use Rattle.narrow.proofs.Paints.{paint-same, beside-now}
use Rattle.fast.specs.Groups.{cell_of, dct_of}
use Rattle.fast.specs.Gains.{gain_of, Side, d8, d16, d32, d64, twice, residual_by, gains_of, Shown, group_of, Results}

-- P the row as it was lent, e the results; f and g what they hold; K is what becomes of a pixel
pub row-gained : {A : Type 0} (d : A) (K : ℤ → A) (shift across w : ℕ) (P e : List ℤ) (f g : ℕ → ℤ) → ((x : ℕ) → x < w → get_or P x (pos 0) ≡ f x) → e ≡ tab 16 g → ((x : ℕ) → x < w → x / 2 ^ across < 16)
    → (n : ℕ) → n ≡ w → (x : ℕ) → x < w → get_or (tab n (λ x. K (clamp (pos 0) (pos 255) (get_or P x (pos 0) +ℤ round_shift shift (get_or e (x / 2 ^ across) (pos 0)))))) x d ≡ K (gain_of (f x) (round_shift shift (g (x / 2 ^ across))))
row-gained d K shift across w P e f g samples results column n long x h =
    tab-at d n (λ x. K (clamp (pos 0) (pos 255) (get_or P x (pos 0) +ℤ round_shift shift (get_or e (x / 2 ^ across) (pos 0))))) x (subst (λ (m : ℕ). x < m) (sym long) h)
    ∙ ap (λ z. K (gain_of z (round_shift shift (get_or e (x / 2 ^ across) (pos 0))))) (samples x h)
    ∙ ap (λ z. K (gain_of (f x) (round_shift shift z))) (ap (λ l. get_or l (x / 2 ^ across) (pos 0)) results ∙ tab-at (pos 0) 16 g (x / 2 ^ across) (column x h))

-- ---- parts
pub cell-lent : (sh q : ℕ) (work : List ℤ) → (q * sh + sh) * 16 ≤ length work → (l j : ℕ) → l < 16 → j < sh → line (lent (q * sh * 16) (sh * 16) work) l j ≡ cell_of sh work q j l
cell-lent sh q work fit l j a b = lent_at (pos 0) work (q * sh * 16) (sh * 16) (omega arith) (j * 16 + l) (omega arith) ∙ ap (λ i. get_or work i (pos 0)) (place (q * sh) j l)
  where
    place : (p j l : ℕ) → p * 16 + (j * 16 + l) ≡ (p + j) * 16 + l
    place p j l = omega arith

pub front_long : (n : ℕ) (t ys : List ℤ) → n ≤ length t → length ys ≡ length (take n t) → length (ys ++ drop n t) ≡ length t
front_long n t ys h e = length-append ys (drop n t) ∙ omega (arith, e, length-take n t, N.min-eq_left h, length-drop n t)

-- ---- rounding
by_one : (z : ℤ) → floor_div z 1 ≡ z
by_one (pos n) = ap pos (N.div-one n)
by_one (negsuc n) = ap negsuc (N.div-one n)

pub unrounded : (z : ℤ) → round_shift 0 z ≡ z
unrounded z = by_one (z +ℤ pos 0) ∙ +ℤ_idr z

pub rounded-small : (shift : ℕ) (z : ℤ) → shift ≤ 16 → nat_abs z ≤ 2 ^ 24 + 4 * 2 ^ 26 → nat_abs (round_shift shift z) ≤ 2 ^ 30
rounded-small shift z h l =
    let p : 2 ^ shift ≤ 2 ^ 16 = pow_mono h in
    omega (arith, round-size shift z, p)

-- ---- sides
pub side-sized : {n : ℕ} → Side n → Sized (cut n)
side-sized d8 = s8
side-sized d16 = s16
side-sized d32 = s32
side-sized d64 = s32

pub side-some : {n : ℕ} → Side n → 0 < n
side-some d8 = lit< tt
side-some d16 = lit< tt
side-some d32 = lit< tt
side-some d64 = lit< tt

one : (x : ℕ) → x / 2 ^ 0 ≡ x
one x = N.div-one x

-- a result serves a sample of the side
pub side-below : {n : ℕ} → Side n → (x : ℕ) → x < n → x / 2 ^ twice n < cut n
side-below d8 x h = subst (λ (m : ℕ). m < 8) (sym (one x)) h
side-below d16 x h = subst (λ (m : ℕ). m < 16) (sym (one x)) h
side-below d32 x h = subst (λ (m : ℕ). m < 32) (sym (one x)) h
side-below d64 x h = omega arith

pub side-twice : {n : ℕ} → Side n → twice n ≤ 1
side-twice d8 = lit≤ tt
side-twice d16 = lit≤ tt
side-twice d32 = lit≤ tt
side-twice d64 = lit≤ tt

pub narrow-side : {n : ℕ} → Side n → cut n ≤ 16 → (x : ℕ) → x < n → x / 2 ^ twice n < 16
narrow-side s l x h = N.lt_of_lt_of_le (side-below s x h) l

-- half of a side whose results are two groups
pub record Halved (n : ℕ) : Type 0 where
  pub both : n / 2 + n / 2 ≡ n
  pub first : (x : ℕ) → x < n / 2 → x / 2 ^ twice n < 16
  pub second : (x : ℕ) → (n / 2 + x) / 2 ^ twice n ≡ 16 + x / 2 ^ twice n

pub half-side : {n : ℕ} → Side n → (cut n ≤ 16 → ⊥) → Halved n
half-side d8 h = absurd (h (lit≤ tt))
half-side d16 h = absurd (h (lit≤ tt))
half-side d32 h = record { both = refl; first = λ x l. subst (λ (m : ℕ). m < 16) (sym (one x)) l; second = λ x. one (16 + x) ∙ ap (λ z. 16 + z) (sym (one x)) }
half-side d64 h = record { both = refl; first = λ x l. omega arith; second = λ x. omega arith }

-- the column of a group
pub first-column : (m : ℕ) → m < 16 → (m / 16 ≡ 0) × (m % 16 ≡ m)
first-column m h = (omega arith, omega arith)

pub second-column : (m : ℕ) → m < 16 → ((16 + m) / 16 ≡ 1) × ((16 + m) % 16 ≡ m)
second-column m h = (omega arith, omega arith)

-- column m of group q is column x of the block
pub group-column : (sh : ℕ) (work : List ℤ) (r x q m : ℕ) → x / 16 ≡ q → x % 16 ≡ m → cols_by (dct_of sh) sh (cell_of sh work q) r m ≡ cols_by (dct_of sh) sh (group_of sh work) r x
group-column sh work r x q m e f =
    ap (λ z. get_or (dct_of sh (tab sh (λ i. cell_of sh work z i m))) r (pos 0)) (sym e) ∙ ap (λ z. get_or (dct_of sh (tab sh (λ i. cell_of sh work (x / 16) i z))) r (pos 0)) (sym f)

-- ---- the picture that the second group finds
pub shown-half : {stride w h v : ℕ} {dst : List ℤ} → Shown 0 stride w h dst → v + v ≡ w → Shown 0 stride v h dst
shown-half {v = v} p e = record { wide = omega (arith, p.wide); inside = λ y l. omega (arith, p.inside y l); small = λ y x l q. p.small y x l (omega arith) }

module _ {stride w h v : ℕ} {f : ℕ → ℕ → ℤ} {dst mid : List ℤ} (p : Shown 0 stride w h dst) (e : v + v ≡ w) (q : Painted (pos 0) 0 stride v h f dst mid) where
  room : v + v ≤ stride
  room = omega (arith, p.wide)

  at : (a x : ℕ) → v + a + x ≡ 0 + a + (v + x)
  at a x = omega arith

  pub second-now : (y x : ℕ) → x < v → get_or mid (v + y * stride + x) (pos 0) ≡ get_or dst (0 + y * stride + (v + x)) (pos 0)
  second-now y x l = beside-now v v q (omega arith) room y x l ∙ ap (λ i. get_or dst i (pos 0)) (at (y * stride) x)

  pub shown-second : Shown v stride v h mid
  shown-second = record {
    wide = omega (arith, room);
    inside = λ y l. omega (arith, p.inside y l, q.long);
    small = λ y x l b. subst (λ (z : ℤ). nat_abs z ≤ 4096) (sym (second-now y x b)) (p.small y (v + x) l (omega arith));
  }

-- ---- a block's groups, whatever becomes of a pixel: K; P is what the residuals are added to
-- the results of a group, as they are or rounded before
module _ {A : Type 0} (d : A) (K : ℤ → A) (P : List ℤ) (from stride w h shift across down sh : ℕ) (C : ℕ → ℕ → ℤ) (out : List ℤ) (old new : List A) (res : Results sh C out)
    (column : (x : ℕ) → x < w → x / 2 ^ across < 16) (row : (y : ℕ) → y < h → y / 2 ^ down < sh) where
  abbrev Strip : ℕ → ℕ → (ℕ → ℕ → ℤ) → Type 0
  Strip s k D = Painted d from stride w h (λ y x. K (gains_of P from stride (residual_by s k down D) y x)) old new

  pub strip-once : (k : ℕ) → across ≡ k → Painted d from stride w h (λ y x. K (gains_of P from stride (residual_by shift k down (λ r x. line out x r)) y x)) old new → Painted d from stride w h (λ y x. K (gains_of P from stride (residual_by shift across down C) y x)) old new
  strip-once k e p =
      paint-same (λ y x a b. ap (λ z. K (gain_of (get_or P (from + y * stride + x) (pos 0)) (round_shift shift z))) (res.is (y / 2 ^ down) (x / 2 ^ across) (row y a) (column x b)))
      (subst (λ (z : ℕ). Strip shift z (λ r x. line out x r)) (sym e) p)

  pub strip-twice : (k : ℕ) → across ≡ k → (rounded : List ℤ) → ((r l : ℕ) → r < sh → l < 16 → line rounded l r ≡ round_shift shift (line out l r)) → Painted d from stride w h (λ y x. K (gains_of P from stride (residual_by 0 k down (λ r x. line rounded x r)) y x)) old new → Painted d from stride w h (λ y x. K (gains_of P from stride (residual_by shift across down C) y x)) old new
  strip-twice k e rounded each p =
      paint-same (λ y x a b. ap (λ z. K (gain_of (get_or P (from + y * stride + x) (pos 0)) z))
      (unrounded (line rounded (x / 2 ^ across) (y / 2 ^ down)) ∙ each (y / 2 ^ down) (x / 2 ^ across) (row y a) (column x b) ∙ ap (round_shift shift) (res.is (y / 2 ^ down) (x / 2 ^ across) (row y a) (column x b))))
      (subst (λ (z : ℕ). Strip 0 z (λ r x. line rounded x r)) (sym e) p)

-- the first group, and the second beside it
module _ {A : Type 0} (d : A) (K : ℤ → A) (P : List ℤ) (stride h shift across down sh : ℕ) (work : List ℤ) (v : ℕ) (column : (x : ℕ) → x < v → x / 2 ^ across < 16) where
  pub left-columns : {old new : List A} → Painted d 0 stride v h (λ y x. K (gains_of P 0 stride (residual_by shift across down (cols_by (dct_of sh) sh (cell_of sh work 0))) y x)) old new
      → Painted d 0 stride v h (λ y x. K (gains_of P 0 stride (residual_by shift across down (cols_by (dct_of sh) sh (group_of sh work))) y x)) old new
  left-columns p =
      paint-same (λ y x a b. let k = first-column (x / 2 ^ across) (column x b) in
      ap (λ z. K (gain_of (get_or P (0 + y * stride + x) (pos 0)) (round_shift shift z))) (group-column sh work (y / 2 ^ down) (x / 2 ^ across) 0 (x / 2 ^ across) k.0 k.1)) p

  pub right-columns : {mid new : List A} (Q : List ℤ) → ((y x : ℕ) → x < v → get_or Q (v + y * stride + x) (pos 0) ≡ get_or P (0 + y * stride + (v + x)) (pos 0)) → ((x : ℕ) → (v + x) / 2 ^ across ≡ 16 + x / 2 ^ across)
      → Painted d v stride v h (λ y x. K (gains_of Q v stride (residual_by shift across down (cols_by (dct_of sh) sh (cell_of sh work 1))) y x)) mid new
      → Painted d v stride v h (λ y x. K (gains_of P 0 stride (residual_by shift across down (cols_by (dct_of sh) sh (group_of sh work))) y (v + x))) mid new
  right-columns Q same other p =
      paint-same (λ y x a b. let k = second-column (x / 2 ^ across) (column x b) in
      ap (λ z. K (gain_of z (round_shift shift (cols_by (dct_of sh) sh (cell_of sh work 1) (y / 2 ^ down) (x / 2 ^ across))))) (same y x b)
      ∙ ap (λ z. K (gain_of (get_or P (0 + y * stride + (v + x)) (pos 0)) (round_shift shift z))) (group-column sh work (y / 2 ^ down) (16 + x / 2 ^ across) 1 (x / 2 ^ across) k.0 k.1
      ∙ ap (λ z. cols_by (dct_of sh) sh (group_of sh work) (y / 2 ^ down) z) (sym (other x)))) p
