-- Pixels as f32. Assumes nothing.
--     pixel-clamped     a number clamped to 0 .. hi is a pixel if hi is
--     highest-pixel     the largest sample of depths 8 to 12 is a pixel
--     exact             the f32 of a pixel has the pixel's value
--     exact-call        so has every number of the block of an accepted call
use mathlib.Core.Path.{◌≡◌, sym, ap, ◌∙◌, subst}
use mathlib.Core.Bool.{Bool, true, false, not, cond}
use mathlib.Core.List.{List}
use Prim.Native.Nat.{ℕ, ◌/◌, ◌%◌, ◌^◌, ◌≤◌, zero-le}
use native.Mathlib.Omega.{arith}
use native.Mathlib.Nat as N
use borrow.Author.Tests.{lt-ltb}
use lib.Dec.{T}
use lib.Ieee
use lib.Ieee.{Float, binary32, of_int}
use lib.Ieee.Exact.{HasValue}
use lib.Ieee.Back.{round_whole}
use lib.IntN.{ℤ, pos, negsuc, nat_abs, ◌+ℤ◌}
use lib.ListN.{length, get_or}
use lib.Pow.{pow_mono}
use lib.Signed.{le_z, lt_z, ◌≤ℤ◌, lt_z_no}
use Rattle.whole.specs.Numbers.{clamp, highest}
use Rattle.whole.proofs.Tests.{and-true}
use Rattle.whole.proofs.Fill.{tab-at}
use Rattle.whole.proofs.Cells.{row_of, column-of}
use Rattle.answers.specs.declared.Answer.{Answer}
use Rattle.answers.proofs.Verdicts.{taken}
use Rattle.pixels.specs.Pixels.{residual_at, pixel_of, IsPixel, pixel_f}
use Rattle.verdicts.specs.Verdicts.{w_of, h_of, float_verdict}
use Rattle.pixels.specs.Calls.{Reading, filled, float_of, Exact}
use Rattle.verdicts.proofs.Judging.{float-passed}

between : (z : ℤ) (n : ℕ) → n ≤ 4095 → T (le_z (pos 0) z) → T (le_z z (pos n)) → IsPixel z
between (pos m) n h p q = N.le_trans (lib.Dec.leb→le m n q) h
between (negsuc m) n h p q = absurd p

pub pixel-clamped : (hi z : ℤ) → IsPixel hi → IsPixel (clamp (pos 0) hi z)
unfolding clamp
pixel-clamped (negsuc n) z h = absurd h
pixel-clamped (pos n) z h = by-low (lt_z z (pos 0)) (λ t. lt_z_no {a = z} {b = pos 0} t)
  where
    by_high : (b : Bool) → (T (not b) → z ≤ℤ pos n) → pos 0 ≤ℤ z → IsPixel (cond b (pos n) z)
    by_high true f l = h
    by_high false f l = between z n h l.le (f tt).le

    by-low : (b : Bool) → (T (not b) → pos 0 ≤ℤ z) → IsPixel (cond b (pos 0) (cond (lt_z (pos n) z) (pos n) z))
    by-low true f = zero-le
    by-low false f = by_high (lt_z (pos n) z) (λ t. lt_z_no {a = pos n} {b = z} t) (f tt)

pub highest-pixel : (depth : ℕ) → depth ≤ 12 → IsPixel (highest depth)
highest-pixel depth h = let l : 2 ^ depth ≤ 2 ^ 12 = pow_mono h in omega arith

-- finite, not negative, n / 1 in size
pub exact : (n : ℕ) → n ≤ 4095 → HasValue (pixel_f (pos n)) false n 1
unfolding pixel_f of_int
exact n h = round_whole binary32 false n (omega arith)

pixel-exact : (z : ℤ) → IsPixel z → HasValue (pixel_f z) false (nat_abs z) 1
pixel-exact (pos n) h = exact n h
pixel-exact (negsuc n) h = absurd h

module _ (how : Reading) (out : List Float) (cs : List ℤ) (txtp tx depth : ℕ) (pred : List ℤ) (a : Answer) (left : List Float) where
  pub exact-call : (a, left) ≡ float_of how out cs txtp tx depth pred → a.number ≡ 0 → Exact how left cs txtp tx depth pred
  unfolding float_of
  exact-call e z i l =
      let v = float_verdict how.refuses (length out) cs txtp tx depth pred in
      let d : v.number ≡ 0 = ap (λ (q : Answer × List Float). q.0.number) (sym e) ∙ z in
      let p = float-passed how.refuses (length out) cs txtp tx depth pred d in
      let w = w_of tx in
      let h = h_of tx in
      let made = pixel_of depth (get_or pred i (pos 0)) (residual_at how.rowwise tx txtp depth cs (i / w) (i % w)) in
      let here = ap (λ (q : Answer × List Float). get_or q.1 i (pixel_f (pos 0))) (e ∙ taken v out (filled how.rowwise out cs txtp tx depth pred) d)
      ∙ tab-at (pixel_f (pos 0)) (length out) _ i (N.lt_of_lt_of_le l p.1.fits.space)
      ∙ ap (λ b. cond b (pixel_f made) (get_or out i (pixel_f (pos 0)))) (and-true (lt-ltb (i / w) h (row_of w h i l)) (lt-ltb (i % w) w (column-of w h i l))) in
      subst (λ (f : Float). HasValue f false (nat_abs made) 1) (sym here)
      (pixel-exact made (pixel-clamped (highest depth) (get_or pred i (pos 0) +ℤ residual_at how.rowwise tx txtp depth cs (i / w) (i % w)) (highest-pixel depth p.0.to)))
