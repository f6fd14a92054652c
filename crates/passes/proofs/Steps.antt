-- The passes one after the other, whoever runs them, and the sizes of what goes from one to the next. Assumes nothing.
--     clamped-size             a clamped number is within 2^19
--     scale-size               181 v + 128 of an accepted coefficient fits 32 bits; coefficient-size: so does 181 v
--     clamped-bounded          what loading and the step between leave for the next stage
--     area                     the work area is large enough
--     shifts, passes-size      the shifts of every size; what the columns leave is within 2^30
use mathlib.Core.Path.{◌≡◌, sym, subst}
use mathlib.Core.Bool.{Bool, true, false, ◌&&◌, cond}
use mathlib.Core.List.{List}
use Prim.Native.Nat.{ℕ, zero, suc, ◌+◌, ◌*◌, ◌-◌, ◌^◌, ◌≤◌, ◌<◌}
use native.Mathlib.Nat as N
use native.Mathlib.Omega.{arith}
use lib.Dec.{ltb, leb, leb→le, lit≤}
use lib.Pow.{pow_mono}
use lib.IntN.{ℤ, pos, negsuc, neg_ℤ, nat_abs, ◌+ℤ◌, ◌*ℤ◌}
use Rattle.whole.specs.Numbers.{lowest, highest, round_shift}
use Rattle.whole.specs.Sums.{tab}
use Rattle.whole.specs.Grid.{rows_by, cols_by, Same, Bounded}
use Rattle.whole.proofs.Range.{clamp-size, lowest-size, highest-size, in-range-ends, in-range-size}
use Rattle.whole.proofs.Tests.{below_at, and_left, and_right}
use Rattle.whole.proofs.Fill.{within-tab}
use Rattle.whole.proofs.Sums.{within_all}
use Rattle.tables.specs.Kinds.{has_kind, hor_of, ver_of}
use Rattle.tables.specs.Dense.{dense_of}
use Rattle.tables.proofs.Kernels.{dense-size, cut_most}
use Rattle.tables.specs.Sizes.{size_at, cut, scaled}
use Rattle.passes.specs.Passes.{clamp_to, scalable, loaded, middle_of, passes_of, sw_of, sh_of, Ready}

pub clamped-size : (depth : ℕ) (z : ℤ) → depth ≤ 12 → nat_abs (clamp_to (depth + 7) z) ≤ 2 ^ 19
clamped-size depth z h =
    let q : depth + 7 ≤ 19 = omega arith in
    let l : 2 ^ (depth + 7) ≤ 2 ^ 19 = pow_mono q in
    clamp-size (lowest (depth + 7)) (highest (depth + 7)) z (2 ^ 19) (omega (arith, lowest-size (depth + 7))) (omega (arith, highest-size (depth + 7)))

-- a negative number and a positive one
opposite : (m b K : ℕ) → m ≤ K → b ≤ K → nat_abs (neg_ℤ (pos m) +ℤ pos b) ≤ K
opposite zero b K h k = omega arith
opposite (suc a) b K h k = pick (ltb b (suc a))
  where
    pick : (t : Bool) → nat_abs (cond t (negsuc (suc a - suc b)) (pos (b - suc a))) ≤ K
    pick true = omega arith
    pick false = omega arith

pub scale-size : (v : ℤ) → scalable v ≡ true → nat_abs (pos 181 *ℤ v +ℤ pos 128) ≤ 2147483550
scale-size (pos n) e = let h = leb→le n 11864549 (in-range-ends (negsuc 11864549) (pos 11864549) (pos n) e).1.le in omega arith
scale-size (negsuc n) e =
    let h = leb→le n 11864549 (in-range-ends (negsuc 11864549) (pos 11864549) (negsuc n) e).0.le in
    opposite (181 * suc n) 128 2147483550 (omega arith) (lit≤ tt)

pub coefficient-size : (v : ℤ) → scalable v ≡ true → nat_abs v ≤ 11864550
coefficient-size v e = in-range-size 11864550 (negsuc 11864549) (pos 11864549) v (lit≤ tt) (lit≤ tt) e

-- ---- what each stage leaves for the next
pub clamped-bounded : (depth w h : ℕ) (f g : ℕ → ℕ → ℤ) → depth ≤ 12 → Same w h f (λ r x. clamp_to (depth + 7) (g r x)) → Bounded (2 ^ 19) w h f
clamped-bounded depth w h f g d e r x a b = subst (λ (z : ℤ). nat_abs z ≤ 2 ^ 19) (sym (e r x a b)) (clamped-size depth (g r x) d)

-- sh rows of sw need at most 1,024 numbers
pub area : (a b : ℕ) {m n : ℕ} → m ≡ cut a → n ≡ cut b → m * n ≤ 1024
area a b e f = rw (e, f) (N.mul-le-mul (cut_most a) (cut_most b))

-- the shifts of every size are at most 16
pub shifts : (tx : ℕ) → tx < 25 → ((size_at tx).first ≤ 16) × ((size_at tx).second ≤ 16)
shifts tx h =
    let t = below_at (λ i. leb (size_at i).first 16 && leb (size_at i).second 16) 25 tt tx h in
    (leb→le (size_at tx).first 16 (and_left (leb (size_at tx).first 16) (leb (size_at tx).second 16) t), leb→le (size_at tx).second 16 (and_right (leb (size_at tx).first 16) (leb (size_at tx).second 16) t))

-- what the columns leave is within 2^30
cols-bounded : (n code w h : ℕ) (g : ℕ → ℕ → ℤ) → has_kind n code ≡ true → Bounded (2 ^ 19) w h g → Bounded (2 ^ 30) w h (cols_by (dense_of n code) h g)
cols-bounded n code w h g k p r x a b =
    within_all (2 ^ 30) (dense_of n code (tab h (λ i. g i x))) (dense-size n code (tab h (λ i. g i x)) k (within-tab (2 ^ 19) h (λ i. g i x) (λ y q. p y x q b))) r

pub passes-size : (rowwise : Bool) (tx txtp depth : ℕ) (cs : List ℤ) → Ready tx txtp depth cs → Bounded (2 ^ 30) (sw_of tx) (sh_of tx) (passes_of rowwise tx txtp depth cs)
unfolding passes_of
passes-size rowwise tx txtp depth cs b =
    let w = (size_at tx).w in
    let h = (size_at tx).h in
    let first = (size_at tx).first in
    cols-bounded h (ver_of txtp) (cut w) (cut h) (middle_of rowwise w h first (hor_of txtp) depth cs) b.down
    (λ r x p q. clamped-size depth (round_shift first (rows_by (dense_of w (hor_of txtp)) (cut w) (loaded rowwise (scaled w h) depth (cut w) (cut h) cs) r x)) b.deep)
