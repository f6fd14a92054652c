-- Rows of samples and the residuals that serve them. Assumes nothing.
--     row-gained       a row that a callee made of samples P and residuals E, by what the two lists hold
--     whole-sample     the sample at an index, by its row and its column
--     serving          a work area of residuals serves every sample of its block
--     residual-bounded, residual-served     residuals in the work area are within 4,096, and are the residuals of the block
--     block_same       equal residuals make equal pixels
use mathlib.Core.Path.{◌≡◌, refl, sym, ap, ◌∙◌, subst}
use mathlib.Core.Bool.{Bool, true, false, ◌&&◌, cond}
use mathlib.Core.List.{List}
use Prim.Native.Nat.{ℕ, ◌+◌, ◌*◌, ◌/◌, ◌%◌, ◌^◌, ◌≤◌, ◌<◌, zero-le}
use native.Mathlib.Nat as N
use native.Mathlib.Omega.{arith}
use borrow.Author.Tests.{ltb-true}
use lib.Dec.{ltb, leb}
use lib.IntN.{ℤ, pos, ◌+ℤ◌, nat_abs}
use lib.ListN.{length, get_or}
use lib.Pow.{pow_mono}
use Rattle.whole.specs.Numbers.{clamp, round_shift, lowest, highest}
use Rattle.whole.specs.Sums.{tab}
use Rattle.whole.specs.Grid.{grid_of, in_block, Bounded, Same}
use Rattle.whole.proofs.Tests.{cond-case}
use Rattle.whole.proofs.Fill.{tab-at, tab-same}
use Rattle.whole.proofs.Cells.{row_in}
use Rattle.whole.proofs.Range.{clamp-size, lowest-size, highest-size}
use Rattle.tables.specs.Sizes.{size_at, cut}
use Rattle.passes.specs.Passes.{settled_to, passes_of, sw_of, sh_of}
use Rattle.pixels.specs.Pixels.{repeats, repeated, residual_of, residual_at}
use Rattle.pixels.specs.Rows.{Residuals}
use Rattle.verdicts.specs.Verdicts.{w_of, h_of, Sides}

-- K is what becomes of a pixel; f and g what the samples and the residuals are
module _ {A : Type 0} (d : A) (K : ℤ → A) (hi : ℤ) (P E : List ℤ) (across w sw : ℕ) (f g : ℕ → ℤ)
    (samples : (x : ℕ) → x < w → get_or P x (pos 0) ≡ f x) (residuals : (x : ℕ) → x < sw → get_or E x (pos 0) ≡ g x) (column : (x : ℕ) → x < w → x / 2 ^ across < sw) where
  pub row-gained : (n : ℕ) → n ≡ w → (x : ℕ) → x < w → get_or (tab n (λ x. K (clamp (pos 0) hi (get_or P x (pos 0) +ℤ get_or E (x / 2 ^ across) (pos 0))))) x d ≡ K (clamp (pos 0) hi (f x +ℤ g (x / 2 ^ across)))
  row-gained n e x h =
      tab-at d n (λ x. K (clamp (pos 0) hi (get_or P x (pos 0) +ℤ get_or E (x / 2 ^ across) (pos 0)))) x (subst (λ (m : ℕ). x < m) (sym e) h)
      ∙ ap (λ z. K (clamp (pos 0) hi (z +ℤ get_or E (x / 2 ^ across) (pos 0)))) (samples x h) ∙ ap (λ z. K (clamp (pos 0) hi (f x +ℤ z))) (residuals (x / 2 ^ across) (column x h))

pub whole-sample : {A : Type 0} (f : ℕ → A) (stride i : ℕ) → f ((i / stride) * stride + i % stride) ≡ f i
whole-sample f stride i = ap f (N.div-add-mod' i stride)

-- ---- the work area serves a block
pub repeat-below : (n x : ℕ) → n ≤ 64 → x < n → x / 2 ^ repeats n < cut n
repeat-below n x h l = by_length (leb n 32) refl
  where
    by_length : (b : Bool) → leb n 32 ≡ b → x / 2 ^ cond b 0 1 < cond b n 32
    by_length true e = subst (λ (m : ℕ). m < n) (sym (N.div-one x)) l
    by_length false e = omega arith

pub repeats-most : (n : ℕ) → repeats n ≤ 1
repeats-most n = cond-case (leb n 32) 0 1 (λ m. m ≤ 1) (λ t. zero-le) (λ t. N.le_refl 1)

pub serving : (w h : ℕ) (work : List ℤ) → Sides w h → cut h * cut w ≤ length work → Bounded 4096 (cut w) (cut h) (grid_of (cut w) work) → Residuals w h (cut w) (repeats w) (repeats h) work
serving w h work s fit b =
    record {
      few = repeats-most w;
      twice = repeats-most h;
      column = λ x l. repeat-below w x s.narrow l;
      row = λ y l. row_in (cut w) (repeat-below h y s.low l) fit;
      small = λ y x l m. b (y / 2 ^ repeats h) x (repeat-below h y s.low l) m;
    }

-- ---- the residuals of a block
settled-size : (depth shift : ℕ) (z : ℤ) → depth ≤ 12 → nat_abs (settled_to depth shift z) ≤ 4096
settled-size depth shift z h =
    let l : 2 ^ depth ≤ 2 ^ 12 = pow_mono h in
    clamp-size (lowest depth) (highest depth) (round_shift shift z) 4096 (omega (arith, lowest-size depth, l)) (N.le_trans (highest-size depth) l)

module _ (rowwise : Bool) (tx txtp depth : ℕ) (cs work : List ℤ) (same : Same (sw_of tx) (sh_of tx) (grid_of (sw_of tx) work) (residual_of rowwise tx txtp depth cs)) where
  pub residual-bounded : depth ≤ 12 → Bounded 4096 (sw_of tx) (sh_of tx) (grid_of (sw_of tx) work)
  residual-bounded h r x a b = subst (λ (z : ℤ). nat_abs z ≤ 4096) (sym (same r x a b)) (settled-size depth (size_at tx).second (passes_of rowwise tx txtp depth cs r x) h)

  pub residual-served : Sides (w_of tx) (h_of tx) → (y x : ℕ) → y < h_of tx → x < w_of tx → repeated (w_of tx) (h_of tx) (grid_of (sw_of tx) work) y x ≡ residual_at rowwise tx txtp depth cs y x
  residual-served s y x a b = same (y / 2 ^ repeats (h_of tx)) (x / 2 ^ repeats (w_of tx)) (repeat-below (h_of tx) y s.low a) (repeat-below (w_of tx) x s.narrow b)

-- ---- equal residuals, equal pixels
module _ {A : Type 0} (stride w h n : ℕ) (f : ℕ → ℤ → A) (g : ℕ → A) (R S : ℕ → ℕ → ℤ) (same : (y x : ℕ) → y < h → x < w → R y x ≡ S y x) where
  pub block_same : tab n (λ i. cond (in_block stride w h i) (f i (R (i / stride) (i % stride))) (g i)) ≡ tab n (λ i. cond (in_block stride w h i) (f i (S (i / stride) (i % stride))) (g i))
  block_same = tab-same n _ _ (λ i l. by_row i (ltb (i / stride) h) (ltb (i % stride) w) refl refl)
    where
      by_row : (i : ℕ) (b c : Bool) → ltb (i / stride) h ≡ b → ltb (i % stride) w ≡ c → cond (b && c) (f i (R (i / stride) (i % stride))) (g i) ≡ cond (b && c) (f i (S (i / stride) (i % stride))) (g i)
      by_row i true true p q = ap (f i) (same (i / stride) (i % stride) (ltb-true (i / stride) h p) (ltb-true (i % stride) w q))
      by_row i true false p q = refl
      by_row i false c p q = refl
