-- The strict calls, from document 02, section 5. Assumes nothing.
--     add-accepts, float-accepts    where the strict call accepts, the clamped call gives the same answer and leaves the same slices
--     add_seven, float-seven        once refusals 1 to 6 pass, the first coefficient outside -2^(depth+7) .. 2^(depth+7) - 1 is refusal 7, slice 1, at its number
--     add-seven-only, float-seven-only     and an answer of 7 names the first such coefficient, whatever else applies
use mathlib.Core.Path.{◌≡◌, refl, sym, ap, ◌∙◌, subst}
use mathlib.Core.Bool.{Bool, true, false, cond, true≢false}
use mathlib.Core.List.{List}
use Prim.Native.Nat.{ℕ, zero, suc, ◌*◌, ◌≤◌, ◌<◌, zero-le}
use native.Mathlib.Decide.{dec_le}
use native.Mathlib.Omega.{arith}
use borrow.Author.Tests.{leb-true, leb-false, le-leb}
use lib.Dec.{leb}
use lib.Ieee
use lib.Ieee.{Float}
use lib.IntN.{ℤ, pos}
use lib.ListN.{length}
use Rattle.whole.specs.Numbers.{highest}
use Rattle.whole.specs.Search.{seek, cell_at}
use Rattle.whole.proofs.Search.{seek_found, seek-all, seek-passed}
use Rattle.answers.specs.declared.Answer.{Answer}
use Rattle.answers.specs.Answers.{done, refused, unless, ends}
use Rattle.answers.proofs.Verdicts.{passed, opens, search-stops}
use Rattle.ranges.specs.Cells.{cell_ok}
use Rattle.tables.specs.Sizes.{cut, scaled}
use Rattle.verdicts.specs.Verdicts.{w_of, h_of, coeff_ok, FirstOutside, coefficients, samples, numbers, add_front, add_verdict, float_front, float_verdict}
use Rattle.pixels.specs.Calls.{strict, clamped, added, add_of, filled, float_of}
use Rattle.verdicts.proofs.Judging.{kinds-passed, plane-passed, buffers-passed, add-front, float-front, scalable-all}

-- ---- searches: what stands before the end passes; the end is the first that fails
module _ (p : ℕ → Bool) where
  seek-before : (i n k : ℕ) → i ≤ k → k < seek p i n → p k ≡ true
  unfolding seek
  seek-before i zero k h l = let z : ⊥ = omega arith in absurd z
  seek-before i (suc n) k h l = by-test (p i) refl l (seek-before (suc i) n k)
    where
      by_place : p i ≡ true → Dec (suc i ≤ k) → (suc i ≤ k → p k ≡ true) → p k ≡ true
      by_place q (yes m) f = f m
      by_place q (no m) f = let z : k ≡ i = omega arith in ap p z ∙ q

      by-test : (b : Bool) → p i ≡ b → k < cond b (seek p (suc i) n) i → (suc i ≤ k → k < seek p (suc i) n → p k ≡ true) → p k ≡ true
      by-test true q l f = by_place q (dec_le (suc i) k) (λ m. f m l)
      by-test false q l f = let z : ⊥ = omega arith in absurd z

  seek-first : (n k : ℕ) → k < n → p k ≡ false → ((j : ℕ) → j < k → p j ≡ true) → seek p 0 n ≡ k
  seek-first n k l e f = by_order (dec_le (seek p 0 n) k) (dec_le k (seek p 0 n))
    where
      by_order : Dec (seek p 0 n ≤ k) → Dec (k ≤ seek p 0 n) → seek p 0 n ≡ k
      by_order (yes a) (yes b) = omega arith
      by_order (no a) b = absurd (true≢false (sym (seek-before 0 n k (omega arith) (omega arith)) ∙ e))
      by_order (yes a) (no b) = absurd (true≢false (sym (f (seek p 0 n) (omega arith)) ∙ seek_found p 0 n (omega arith)))

-- ---- refusal 7, before any rest
module _ (w h depth : ℕ) (cs : List ℤ) (rest : Answer) where
  abbrev count : ℕ
  count = cut w * cut h

  abbrev found : Bool → ℕ
  found refuses = seek (coeff_ok refuses (scaled w h) depth cs) 0 count

  -- what the strict test passes, the other passes
  loosened : depth ≤ 12 → (scale : Bool) (k : ℕ) → coeff_ok true scale depth cs k ≡ true → coeff_ok false scale depth cs k ≡ true
  loosened deep true k e = scalable-all true true depth deep cs k e refl
  loosened deep false k e = refl

  both-accept : depth ≤ 12 → (coefficients true w h depth cs rest).number ≡ 0 → coefficients true w h depth cs rest ≡ coefficients false w h depth cs rest
  both-accept deep e =
      let a = leb-true count (found true) (passed (leb count (found true)) 6 1 _ rest e).0 in
      let all = seek-all (coeff_ok false (scaled w h) depth cs) 0 count (λ k l. loosened deep (scaled w h) k (seek-passed (coeff_ok true (scaled w h) depth cs) count a k (omega arith))) in
      opens _ rest (le-leb count (found true) a) ∙ sym (opens _ rest (le-leb count (found false) (omega (arith, all))))

  seven : (k : ℕ) → FirstOutside depth count cs k → coefficients true w h depth cs rest ≡ refused 7 1 k
  seven k f =
      let e = seek-first (coeff_ok true (scaled w h) depth cs) count k f.below f.outside f.before in
      search-stops 7 1 count (λ k. k) (found true) rest (omega (arith, e, f.below)) ∙ ap (refused 7 1) e

  seven-only : (rest.number ≡ 7 → ⊥) → (coefficients true w h depth cs rest).number ≡ 7 → FirstOutside depth count cs (coefficients true w h depth cs rest).place
  seven-only none e = by-test (leb count (found true)) refl e
    where
      by-test : (b : Bool) → leb count (found true) ≡ b → (unless b (refused 7 1 (found true)) rest).number ≡ 7 → FirstOutside depth count cs (unless b (refused 7 1 (found true)) rest).place
      by-test true p e = absurd (none e)
      by-test false p e =
          let l = leb-false count (found true) p in
          record { below = l; outside = seek_found (coeff_ok true (scaled w h) depth cs) 0 count (omega (arith, l)); before = λ j m. seek-before (coeff_ok true (scaled w h) depth cs) 0 count j zero-le m }

-- refusal 8 is not 7
not-seven : (w h depth : ℕ) (p : List ℤ) (stride : ℕ) → (samples w h depth p stride).number ≡ 7 → ⊥
not-seven w h depth p stride e = by-test (leb (h * w) (seek (cell_ok (pos 0) (highest depth) p 0 stride w) 0 (h * w))) e
  where
    by-test : (b : Bool) → (unless b (refused 8 2 (cell_at 0 stride w (seek (cell_ok (pos 0) (highest depth) p 0 stride w) 0 (h * w)))) done).number ≡ 7 → ⊥
    by-test true e = omega arith
    by-test false e = omega arith

-- ---- the add call
module _ (dst : List ℤ) (stride : ℕ) (cs : List ℤ) (txtp tx depth : ℕ) where
  abbrev plane-rest : Answer
  plane-rest = samples (w_of tx) (h_of tx) depth dst stride

  pub add-accepts : (add_of strict dst stride cs txtp tx depth).0.number ≡ 0 → add_of strict dst stride cs txtp tx depth ≡ add_of clamped dst stride cs txtp tx depth
  unfolding add_of add_verdict
  add-accepts e =
      let k = kinds-passed tx txtp depth _ e in
      let p = plane-passed (w_of tx) (h_of tx) (length dst) stride (length cs) _ k.1 in
      ap (λ (v : Answer). ends (add_front (length dst) stride (length cs) txtp tx depth v) dst (added false dst stride cs txtp tx depth)) (both-accept (w_of tx) (h_of tx) depth cs plane-rest k.0.to p.1)

  -- refusals 1 to 6 pass
  module _ (fits : (add_front (length dst) stride (length cs) txtp tx depth done).number ≡ 0) where
    pub add_seven : (k : ℕ) → FirstOutside depth (cut (w_of tx) * cut (h_of tx)) cs k → (add_of strict dst stride cs txtp tx depth).0 ≡ refused 7 1 k
    unfolding add_of add_verdict
    add_seven k f = add-front (length dst) stride (length cs) txtp tx depth fits _ ∙ seven (w_of tx) (h_of tx) depth cs plane-rest k f

    pub add-seven-only : (add_of strict dst stride cs txtp tx depth).0.number ≡ 7 → FirstOutside depth (cut (w_of tx) * cut (h_of tx)) cs (add_of strict dst stride cs txtp tx depth).0.place
    unfolding add_of add_verdict
    add-seven-only e =
        let o = add-front (length dst) stride (length cs) txtp tx depth fits (numbers true (w_of tx) (h_of tx) depth cs dst stride) in
        subst (λ (a : Answer). FirstOutside depth (cut (w_of tx) * cut (h_of tx)) cs a.place) (sym o)
        (seven-only (w_of tx) (h_of tx) depth cs plane-rest (not-seven (w_of tx) (h_of tx) depth dst stride) (ap (λ (a : Answer). a.number) (sym o) ∙ e))

-- ---- the float call
module _ (out : List Float) (cs : List ℤ) (txtp tx depth : ℕ) (pred : List ℤ) where
  abbrev float-rest : Answer
  float-rest = samples (w_of tx) (h_of tx) depth pred (w_of tx)

  pub float-accepts : (float_of strict out cs txtp tx depth pred).0.number ≡ 0 → float_of strict out cs txtp tx depth pred ≡ float_of clamped out cs txtp tx depth pred
  unfolding float_of float_verdict
  float-accepts e =
      let k = kinds-passed tx txtp depth _ e in
      let p = buffers-passed (w_of tx) (h_of tx) (length out) (length cs) (length pred) _ k.1 in
      ap (λ (v : Answer). ends (float_front (length out) (length cs) txtp tx depth (length pred) v) out (filled false out cs txtp tx depth pred)) (both-accept (w_of tx) (h_of tx) depth cs float-rest k.0.to p.1)

  module _ (fits : (float_front (length out) (length cs) txtp tx depth (length pred) done).number ≡ 0) where
    pub float-seven : (k : ℕ) → FirstOutside depth (cut (w_of tx) * cut (h_of tx)) cs k → (float_of strict out cs txtp tx depth pred).0 ≡ refused 7 1 k
    unfolding float_of float_verdict
    float-seven k f = float-front (length out) (length cs) txtp tx depth (length pred) fits _ ∙ seven (w_of tx) (h_of tx) depth cs float-rest k f

    pub float-seven-only : (float_of strict out cs txtp tx depth pred).0.number ≡ 7 → FirstOutside depth (cut (w_of tx) * cut (h_of tx)) cs (float_of strict out cs txtp tx depth pred).0.place
    unfolding float_of float_verdict
    float-seven-only e =
        let o = float-front (length out) (length cs) txtp tx depth (length pred) fits (numbers true (w_of tx) (h_of tx) depth cs pred (w_of tx)) in
        subst (λ (a : Answer). FirstOutside depth (cut (w_of tx) * cut (h_of tx)) cs a.place) (sym o)
        (seven-only (w_of tx) (h_of tx) depth cs float-rest (not-seven (w_of tx) (h_of tx) depth pred (w_of tx)) (ap (λ (a : Answer). a.number) (sym o) ∙ e))
