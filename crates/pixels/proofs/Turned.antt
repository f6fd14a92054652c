-- Coefficients in row order, from document 02, section 1. Assumes nothing.
--     passes-turned               a list in column order and its turned copy in row order: the same numbers after the columns
--     add_turned, float-turned    and of the calls: the same number; where it is 0, the same answer and the same slices
use mathlib.Core.Path.{◌≡◌, refl, sym, ap, ◌∙◌, subst}
use mathlib.Core.Bool.{Bool, true, false, ◌&&◌}
use mathlib.Core.List.{List}
use Prim.Native.Nat.{ℕ, ◌+◌, ◌*◌, ◌-◌, ◌/◌, ◌%◌, ◌^◌, ◌<◌}
use native.Mathlib.Nat as N
use native.Mathlib.Omega.{arith}
use borrow.Author.Tests.{leb-true, leb-false, le-leb}
use lib.Dec.{leb}
use lib.Ieee
use lib.Ieee.{Float}
use lib.IntN.{ℤ, pos}
use lib.ListN.{length, get_or}
use Rattle.whole.specs.Numbers.{in_range, lowest, highest}
use Rattle.whole.specs.Search.{seek}
use Rattle.whole.specs.Grid.{Same}
use Rattle.whole.proofs.Search.{seek-all, seek-passed}
use Rattle.whole.proofs.Cells.{cell_in, row_of, column-of}
use Rattle.whole.proofs.Grid.{rows_same, cols-same}
use Rattle.answers.specs.declared.Answer.{Answer}
use Rattle.answers.specs.Answers.{refused, unless, ends}
use Rattle.tables.specs.Sizes.{size_at, cut, scaled}
use Rattle.tables.specs.Kinds.{hor_of, ver_of, has_kind}
use Rattle.tables.specs.Dense.{dense_of}
use Rattle.passes.specs.Passes.{entry, settled_to, loaded, middle_of, passes_of, sw_of, sh_of}
use Rattle.pixels.specs.Pixels.{repeats, residual_at, pixel_of, pixel_f}
use Rattle.verdicts.specs.Verdicts.{w_of, h_of, kinds, samples, add_verdict, float_verdict}
use Rattle.pixels.specs.Calls.{strict, strict_rows, Turned, added, add_of, filled, float_of}
use Rattle.verdicts.proofs.Judging.{add-passed, float-passed, sides}
use Rattle.pixels.proofs.Served.{repeat-below, block_same}

-- ---- two answers with the same number, which are the same where it is 0
abbrev Alike : Answer → Answer → Type 0
Alike a b = (a.number ≡ b.number) × (a.number ≡ 0 → a ≡ b)

lift : (t : Bool) (f a b : Answer) → Alike a b → Alike (unless t f a) (unless t f b)
lift true f a b h = h
lift false f a b h = (refl, λ z. refl)

kinds-alike : (tx txtp depth : ℕ) (a b : Answer) → Alike a b → Alike (kinds tx txtp depth a) (kinds tx txtp depth b)
kinds-alike tx txtp depth a b h =
    lift (leb 8 depth && leb depth 12) (refused 1 0 0) _ _
    (lift (leb tx 24) (refused 2 0 0) _ _
    (lift (leb txtp 255) (refused 3 0 0) _ _
    (lift (has_kind (w_of tx) (hor_of txtp)) (refused 4 0 0) _ _
    (lift (has_kind (h_of tx) (ver_of txtp)) (refused 4 0 1) a b h))))

-- a call by its answer and its work
call-alike : {A : Type 0} (v u : Answer) (found made other : A) → Alike v u → (v.number ≡ 0 → made ≡ other) → ((ends v found made).0.number ≡ (ends u found other).0.number) × ((ends v found made).0.number ≡ 0 → ends v found made ≡ ends u found other)
call-alike v u found made other h m = (h.0, λ z. ap (λ (x : Answer). ends x found made) (h.1 z) ∙ ap (ends u found) (m z))

-- ---- coefficients: one list is in range exactly where the other is
module _ (depth sw sh : ℕ) (cs ds : List ℤ) (t : Turned sw sh cs ds) where
  abbrev ok : List ℤ → ℕ → Bool
  ok l k = in_range (lowest (depth + 7)) (highest (depth + 7)) (get_or l k (pos 0))

  abbrev All : List ℤ → Type 0
  All l = (k : ℕ) → k < sw * sh → ok l k ≡ true

  to-rows : All cs → All ds
  to-rows h k l =
      let m : k < sh * sw = omega arith in
      let a = row_of sw sh k m in
      let b = column-of sw sh k m in
      let c : k / sw + (k % sw) * sh < sw * sh = omega (arith, cell_in {r = k % sw} {x = k / sw} {w = sh} {h = sw} b a (N.le_refl (sw * sh))) in
      subst (λ (j : ℕ). ok ds j ≡ true) (N.div-add-mod' k sw) (ap (in_range (lowest (depth + 7)) (highest (depth + 7))) (t.same (k / sw) (k % sw) a b) ∙ h (k / sw + (k % sw) * sh) c)

  to-columns : All ds → All cs
  to-columns h k l =
      let a = row_of sh sw k l in
      let b = column-of sh sw k l in
      let p : k % sh + (k / sh) * sh ≡ k = omega (arith, N.div-add-mod' k sh) in
      let c : (k % sh) * sw + k / sh < sw * sh = omega (arith, cell_in {r = k % sh} {x = k / sh} {w = sw} {h = sh} b a (N.le_refl (sh * sw))) in
      subst (λ (j : ℕ). ok cs j ≡ true) p (ap (in_range (lowest (depth + 7)) (highest (depth + 7))) (sym (t.same (k % sh) (k / sh) b a)) ∙ h ((k % sh) * sw + k / sh) c)

  abbrev end : List ℤ → ℕ
  end l = seek (ok l) 0 (sw * sh)

  passed : (l : List ℤ) → leb (sw * sh) (end l) ≡ true → All l
  passed l e = seek-passed (ok l) (sw * sh) (leb-true (sw * sh) (end l) e)

  failed : (l : List ℤ) → leb (sw * sh) (end l) ≡ false → All l → ⊥
  failed l e h = omega (arith, leb-false (sw * sh) (end l) e, seek-all (ok l) 0 (sw * sh) (λ k m. h k (omega arith)))

  numbers-alike : (rest : Answer) → Alike (unless (leb (sw * sh) (end cs)) (refused 7 1 (end cs)) rest) (unless (leb (sw * sh) (end ds)) (refused 7 1 (end ds)) rest)
  numbers-alike rest = by_tests (leb (sw * sh) (end cs)) (leb (sw * sh) (end ds)) refl refl
    where
      by_tests : (a b : Bool) → leb (sw * sh) (end cs) ≡ a → leb (sw * sh) (end ds) ≡ b → Alike (unless a (refused 7 1 (end cs)) rest) (unless b (refused 7 1 (end ds)) rest)
      by_tests true true p q = (refl, λ z. refl)
      by_tests true false p q = absurd (failed ds q (to-rows (passed cs p)))
      by_tests false true p q = absurd (failed cs p (to-columns (passed ds q)))
      by_tests false false p q = (refl, λ z. let w : ⊥ = omega arith in absurd w)

-- ---- the passes
module _ (tx txtp depth : ℕ) (cs ds : List ℤ) (t : Turned (sw_of tx) (sh_of tx) cs ds) where
  abbrev w : ℕ
  w = w_of tx

  abbrev h : ℕ
  h = h_of tx

  pub passes-turned : Same (sw_of tx) (sh_of tx) (passes_of false tx txtp depth cs) (passes_of true tx txtp depth ds)
  unfolding passes_of
  passes-turned =
      cols-same {f = middle_of false w h (size_at tx).first (hor_of txtp) depth cs} {g = middle_of true w h (size_at tx).first (hor_of txtp) depth ds} (dense_of h (ver_of txtp))
      (λ r x a b. ap (settled_to (depth + 7) (size_at tx).first)
      (rows_same {f = loaded false (scaled w h) depth (cut w) (cut h) cs} {g = loaded true (scaled w h) depth (cut w) (cut h) ds} (dense_of w (hor_of txtp)) (λ r x a b. ap (entry (scaled w h) depth) (sym (t.same r x a b))) r x a b))

  residual-turned : tx < 25 → (y x : ℕ) → y < h → x < w → residual_at false tx txtp depth cs y x ≡ residual_at true tx txtp depth ds y x
  residual-turned l y x a b =
      let s = sides tx l in
      ap (settled_to depth (size_at tx).second) (passes-turned (y / 2 ^ repeats h) (x / 2 ^ repeats w) (repeat-below h y s.low a) (repeat-below w x s.narrow b))

  -- both lists are long enough
  long-alike : (a b : Answer) → Alike a b → Alike (unless (leb (cut w * cut h) (length cs)) (refused 6 1 0) a) (unless (leb (cut w * cut h) (length ds)) (refused 6 1 0) b)
  long-alike a b e = rw (le-leb (cut w * cut h) (length cs) t.enough, le-leb (cut w * cut h) (length ds) t.enough-rows) e

  -- ---- the calls
  module _ (dst : List ℤ) (stride : ℕ) where
    pub add_turned : ((add_of strict dst stride cs txtp tx depth).0.number ≡ (add_of strict_rows dst stride ds txtp tx depth).0.number)
        × ((add_of strict dst stride cs txtp tx depth).0.number ≡ 0 → add_of strict dst stride cs txtp tx depth ≡ add_of strict_rows dst stride ds txtp tx depth)
    unfolding add_of add_verdict
    add_turned =
        call-alike (add_verdict true dst stride cs txtp tx depth) (add_verdict true dst stride ds txtp tx depth) dst (added false dst stride cs txtp tx depth) (added true dst stride ds txtp tx depth)
        (kinds-alike tx txtp depth _ _
        (lift (leb w stride && leb stride 65536) (refused 5 0 0) _ _
        (long-alike _ _
        (lift (leb ((h - 1) * stride + w) (length dst)) (refused 6 2 0) _ _
        (numbers-alike depth (cut w) (cut h) cs ds t (samples w h depth dst stride))))))
        (λ z. block_same stride w h (length dst) (λ i d. pixel_of depth (get_or dst i (pos 0)) d) (λ i. get_or dst i (pos 0)) (residual_at false tx txtp depth cs) (residual_at true tx txtp depth ds)
        (residual-turned (add-passed true dst stride cs txtp tx depth z).0.size))

  module _ (out : List Float) (pred : List ℤ) where
    pub float-turned : ((float_of strict out cs txtp tx depth pred).0.number ≡ (float_of strict_rows out ds txtp tx depth pred).0.number)
        × ((float_of strict out cs txtp tx depth pred).0.number ≡ 0 → float_of strict out cs txtp tx depth pred ≡ float_of strict_rows out ds txtp tx depth pred)
    unfolding float_of float_verdict
    float-turned =
        call-alike (float_verdict true (length out) cs txtp tx depth pred) (float_verdict true (length out) ds txtp tx depth pred) out (filled false out cs txtp tx depth pred) (filled true out ds txtp tx depth pred)
        (kinds-alike tx txtp depth _ _
        (long-alike _ _
        (lift (leb (h * w) (length pred)) (refused 6 2 0) _ _
        (lift (leb (h * w) (length out)) (refused 6 3 0) _ _
        (numbers-alike depth (cut w) (cut h) cs ds t (samples w h depth pred w))))))
        (λ z. block_same w w h (length out) (λ i d. pixel_f (pixel_of depth (get_or pred i (pos 0)) d)) (λ i. get_or out i (pixel_f (pos 0))) (residual_at false tx txtp depth cs) (residual_at true tx txtp depth ds)
        (residual-turned (float-passed true (length out) cs txtp tx depth pred z).0.size))
