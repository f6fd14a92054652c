-- Blocks that go through the narrow passes. Assumes nothing.
--     wide-side                    a side of at least 8 is one of 8, 16, 32, 64
--     add-seen, float-seen         where the verdict is Done at depth 8, the samples or predictions are in 0 .. 255
--     quick-narrow                 and the coefficients are what the narrow passes ask for
--     quick-added, quick-filled    what the narrow passes leave is what the definition has
use mathlib.Core.Path.{◌≡◌, refl, sym, ap, ◌∙◌, subst}
use mathlib.Core.Bool.{Bool, true, false, ◌&&◌, cond}
use mathlib.Core.List.{List}
use Prim.Native.Nat.{ℕ, ◌+◌, ◌*◌, ◌/◌, ◌^◌, ◌≤◌, ◌<◌}
use native.Mathlib.Nat as N
use borrow.Author.Tests.{ltb-true, eqb-true}
use lib.Dec.{T, eqb, ltb}
use lib.Ieee.{Float}
use lib.IntN.{ℤ, pos}
use lib.ListN.{length, get_or}
use Rattle.whole.specs.Numbers.{in_range, highest}
use Rattle.whole.specs.Search.{seek, cell_at}
use Rattle.whole.proofs.Search.{seek-passed}
use Rattle.whole.proofs.Cells.{cell-place, cell_in, row_in}
use Rattle.whole.proofs.Tests.{below_at, and_left, and_right}
use Rattle.answers.specs.Answers.{done}
use Rattle.answers.proofs.Verdicts.{search-passed}
use Rattle.ranges.specs.Cells.{cell_ok}
use Rattle.tables.specs.Sizes.{size_at, cut, scaled}
use Rattle.tables.specs.Kinds.{hor_of}
use Rattle.passes.specs.Passes.{settled_to, block_of, passes_of, Scalable}
use Rattle.passes.proofs.Steps.{shifts}
use Rattle.verdicts.specs.Verdicts.{w_of, h_of, samples, numbers, on_plane, add_verdict, on_buffers, float_verdict}
use Rattle.verdicts.proofs.Judging.{kinds-passed, plane-passed, buffers-passed, coefficients-passed, last_row}
use Rattle.fast.specs.Gains.{Side, d8, d16, d32, d64, twice, residual8, gained_by, Narrow, Seen}
use Rattle.pixels.specs.Pixels.{residual_at}
use Rattle.pixels.specs.Calls.{added, filled_by, filled}
use Rattle.quick.specs.Quick.{Quick}

-- ---- sides
-- 8, 16, 32, 64, or below 8
side_ok : ℕ → Bool
side_ok n = cond (ltb n 8) true (cond (eqb n 8) true (cond (eqb n 16) true (cond (eqb n 32) true (eqb n 64))))

side-is : (n : ℕ) → T (side_ok n) → 8 ≤ n → Side n
unfolding side_ok
side-is n t h = by (ltb n 8) (eqb n 8) (eqb n 16) (eqb n 32) (eqb n 64) refl refl refl refl refl t
  where
    by : (a b c d e : Bool) → ltb n 8 ≡ a → eqb n 8 ≡ b → eqb n 16 ≡ c → eqb n 32 ≡ d → eqb n 64 ≡ e → T (cond a true (cond b true (cond c true (cond d true e)))) → Side n
    by true b c d e p q r u v t = absurd (N.not-le_of_lt (ltb-true n 8 p) h)
    by false true c d e p q r u v t = subst Side (sym (eqb-true n 8 q)) d8
    by false false true d e p q r u v t = subst Side (sym (eqb-true n 16 r)) d16
    by false false false true e p q r u v t = subst Side (sym (eqb-true n 32 u)) d32
    by false false false false true p q r u v t = subst Side (sym (eqb-true n 64 v)) d64
    by false false false false false p q r u v t = absurd t

pub wide-side : (tx : ℕ) → tx < 25 → (8 ≤ w_of tx → Side (w_of tx)) × (8 ≤ h_of tx → Side (h_of tx))
unfolding side_ok
wide-side tx h =
    let t = below_at (λ i. side_ok (w_of i) && side_ok (h_of i)) 25 tt tx h in
    (side-is (w_of tx) (and_left (side_ok (w_of tx)) (side_ok (h_of tx)) t), side-is (h_of tx) (and_right (side_ok (w_of tx)) (side_ok (h_of tx)) t))

-- ---- what a verdict of Done tells
samples-seen : (refuses : Bool) (w h : ℕ) (cs p : List ℤ) (stride : ℕ) → (numbers refuses w h 8 cs p stride).number ≡ 0 → (y x : ℕ) → y < h → x < w → in_range (pos 0) (pos 255) (get_or p (y * stride + x) (pos 0)) ≡ true
samples-seen refuses w h cs p stride e y x l m =
    let cell = cell_ok (pos 0) (highest 8) p 0 stride w in
    let a = coefficients-passed refuses w h 8 cs (samples w h 8 p stride) e in
    let b = search-passed 7 2 (h * w) (cell_at 0 stride w) (seek cell 0 (h * w)) done a.1 in
    subst (λ (j : ℕ). in_range (pos 0) (pos 255) (get_or p j (pos 0)) ≡ true) (cell-place y m 0 stride ∙ ap (λ n. n + x) (N.zero-add (y * stride)))
    (seek-passed cell (h * w) b.0 (y * w + x) (cell_in l m (N.le_refl (h * w))))

pub add-seen : (refuses : Bool) (dst : List ℤ) (stride : ℕ) (cs : List ℤ) (txtp tx : ℕ) → (add_verdict refuses dst stride cs txtp tx 8).number ≡ 0 → Seen (w_of tx) (h_of tx) stride dst
unfolding add_verdict
add-seen refuses dst stride cs txtp tx e =
    let w = w_of tx in
    let h = h_of tx in
    let k = kinds-passed tx txtp 8 (on_plane w h (length dst) stride (length cs) (numbers refuses w h 8 cs dst stride)) e in
    let p = plane-passed w h (length dst) stride (length cs) (numbers refuses w h 8 cs dst stride) k.1 in
    record { wide = p.0.wide; inside = last_row h stride w (length dst) p.0.reach; samples = samples-seen refuses w h cs dst stride p.1 }

pub float-seen : (refuses : Bool) (room : ℕ) (cs : List ℤ) (txtp tx : ℕ) (pred : List ℤ) → (float_verdict refuses room cs txtp tx 8 pred).number ≡ 0 → Seen (w_of tx) (h_of tx) (w_of tx) pred
unfolding float_verdict
float-seen refuses room cs txtp tx pred e =
    let w = w_of tx in
    let h = h_of tx in
    let k = kinds-passed tx txtp 8 (on_buffers w h room (length cs) (length pred) (numbers refuses w h 8 cs pred w)) e in
    let p = buffers-passed w h room (length cs) (length pred) (numbers refuses w h 8 cs pred w) k.1 in
    record { wide = N.le_refl w; inside = λ y l. row_in w l p.0.known; samples = samples-seen refuses w h cs pred w p.1 }

pub quick-narrow : {txtp tx depth : ℕ} {cs : List ℤ} → Quick txtp tx depth → cut (w_of tx) * cut (h_of tx) ≤ length cs → Scalable (scaled (w_of tx) (h_of tx)) (cut (w_of tx) * cut (h_of tx)) cs → Narrow (w_of tx) (h_of tx) (size_at tx).first cs
quick-narrow {tx = tx} q l r = record { across = q.across; down = q.down; before = (shifts tx q.size).0; long = l; range = r }

-- ---- what is left
-- the residuals of the narrow passes
quick-residual : (rowwise : Bool) (cs : List ℤ) (txtp tx depth : ℕ) → Quick txtp tx depth → residual8 rowwise (w_of tx) (h_of tx) (size_at tx).first (size_at tx).second cs ≡ residual_at rowwise tx txtp 8 cs
unfolding passes_of
quick-residual rowwise cs txtp tx depth q =
    let by : ℕ → ℕ → ℕ → ℕ → ℤ = λ a b y x. settled_to 8 (size_at tx).second (block_of rowwise (w_of tx) (h_of tx) (size_at tx).first a b 8 cs (y / 2 ^ twice (h_of tx)) (x / 2 ^ twice (w_of tx))) in
    ap (λ a. by a 0) (sym q.hor) ∙ ap (by (hor_of txtp)) (sym q.ver)

pub quick-added : (rowwise : Bool) (dst : List ℤ) (stride : ℕ) (cs : List ℤ) (txtp tx depth : ℕ) → Quick txtp tx depth
    → gained_by (w_of tx) (h_of tx) (residual8 rowwise (w_of tx) (h_of tx) (size_at tx).first (size_at tx).second cs) dst stride ≡ added rowwise dst stride cs txtp tx depth
quick-added rowwise dst stride cs txtp tx depth q =
    ap (λ R. gained_by (w_of tx) (h_of tx) R dst stride) (quick-residual rowwise cs txtp tx depth q) ∙ ap (λ d. added rowwise dst stride cs txtp tx d) (sym q.eight)

pub quick-filled : (rowwise : Bool) (out : List Float) (cs : List ℤ) (txtp tx depth : ℕ) (pred : List ℤ) → Quick txtp tx depth
    → filled_by (w_of tx) (h_of tx) 8 (residual8 rowwise (w_of tx) (h_of tx) (size_at tx).first (size_at tx).second cs) out pred ≡ filled rowwise out cs txtp tx depth pred
quick-filled rowwise out cs txtp tx depth pred q =
    ap (λ R. filled_by (w_of tx) (h_of tx) 8 R out pred) (quick-residual rowwise cs txtp tx depth q) ∙ ap (λ d. filled rowwise out cs txtp tx d pred) (sym q.eight)
