-- A history's step and the step alone, and demand 3 over the remaining steps. Assumes nothing.
--     step-alone       save for 12, 14, a 5 for the rows and a 6 below the rows, answer and plane are those of the step alone
--     accepted-is      a step alone that is taken is taken by the history too, where there is room
--     exists, unique   for a wanted block in range exactly one list of levels is taken and shows it
--     none             and none where 14 applies
use mathlib.Core.Path.{◌≡◌, refl, sym, ap, ◌∙◌, subst}
use mathlib.Core.Bool.{Bool, true, false, ◌&&◌}
use mathlib.Core.List.{List}
use Prim.Native.Nat.{ℕ, ◌+◌}
use native.Mathlib.Omega.{arith}
use borrow.Author.Tests.{eqb-true}
use lib.Dec.{T, leb, eqb}
use lib.IntN.{ℤ, pos, neg_ℤ}
use lib.ListN.{length}
use Rattle.whole.specs.Sums.{item}
use Rattle.answers.specs.declared.Answer.{Answer}
use Rattle.answers.specs.Answers.{done, refused, unless, ends}
use Rattle.answers.proofs.Verdicts.{passed, taken}
use Rattle.wht.specs.Calls.{outside}
use Rattle.wht.specs.Wht.{fwht, iwht}
use Rattle.lossless.specs.Gains.{gained, samples, judged, gaining}
use Rattle.lossless.specs.Step as S
use Rattle.lossless.specs.Step.{Where, place, attempt, sample, deep, strides, widths, fits, front}
use Rattle.lossless.specs.Wanted.{Ready, Samples, Shows, difference}
use Rattle.lossless.proofs.Arguments.{fine, front-done}
use Rattle.lossless.proofs.Blocks as B
use Rattle.lossless.proofs.Calls as L
use Rattle.lossless.proofs.Wanted as W
use Rattle.keeping.specs.Range.{Area, within, sound, front_of}
use Rattle.history.specs.Calls as C
use Rattle.history.specs.Calls.{Lent, and_then, spots, room, step_samples, step_verdict, stepped}
use Rattle.history.proofs.Parts.{then-stops, then-passed}
use Rattle.reached.specs.Holds.{Good}
use Rattle.reached.proofs.Calls.{sound-make, step_is}

-- the two fronts, test by test: depth, stride, width, levels, block, history. The tests of the rows have passed
same-front : (d t w l f s : Bool) (last : Answer)
    → (s ≡ false
    → (unless d (refused 1 0 0) (unless (t && (w && true)) (refused 5 0 0) (unless l (refused 6 1 0) (unless (f && true) (refused 6 2 0) (unless s (refused 12 0 0) last))))).number ≡ 12 → ⊥)
    → unless d (refused 1 0 0) (unless (t && (w && true)) (refused 5 0 0) (unless l (refused 6 1 0) (unless (f && true) (refused 6 2 0) (unless s (refused 12 0 0) last))))
    ≡ unless d (refused 1 0 0) (unless t (refused 5 0 0) (unless w (refused 5 0 0) (unless l (refused 6 1 0) (unless f (refused 6 2 0) last))))
same-front false t w l f s last h = refl
same-front true false w l f s last h = refl
same-front true true false l f s last h = refl
same-front true true true false f s last h = refl
same-front true true true true false s last h = refl
same-front true true true true true false last h = absurd (h refl refl)
same-front true true true true true true last h = refl

-- 8 and 10 stand before 14
same-verdict : (f t : Answer) (b : Bool) → (t.number ≡ 0 → t ≡ done) → ((and_then f (and_then t (unless b (refused 14 0 0) done))).number ≡ 14 → ⊥)
    → and_then f (and_then t (unless b (refused 14 0 0) done)) ≡ and_then f t
same-verdict f t b d h = go (eqb f.number 0) (eqb t.number 0) b refl h
  where
    go : (x y b : Bool) → eqb t.number 0 ≡ y → ((unless x f (unless y t (unless b (refused 14 0 0) done))).number ≡ 14 → ⊥) → unless x f (unless y t (unless b (refused 14 0 0) done)) ≡ unless x f t
    go false y b e h = refl
    go true false b e h = refl
    go true true true e h = sym (d (eqb-true t.number 0 e))
    go true true false e h = absurd (h refl)

plane-of : (b : Bool) (m w : Lent) → (unless b m w).plane ≡ unless b m.plane w.plane
plane-of true m w = refl
plane-of false m w = refl

module _ (a : Area) (m : Lent) (size : a.size ≡ length m.plane) (d r c : ℕ) (v : List ℤ) where
  abbrev step : S.Step
  step = attempt d a.stride a.width r c v

  abbrev mine : Answer
  mine = front_of a d r c v m.steps m.levels (length m.index)

  abbrev tests : Answer
  tests = samples (sample d) (spots a.stride r c) m.plane (item (iwht v))

  abbrev left : List ℤ
  left = gained (spots a.stride r c) (item (iwht v)) m.plane

  tests-done : tests.number ≡ 0 → tests ≡ done
  tests-done e = B.passed (sample d) (spots a.stride r c) m.plane (item (iwht v)) (B.passes (sample d) (spots a.stride r c) m.plane (item (iwht v)) e)

  abbrev by_tests : ℕ → Bool → Bool → Answer
  by_tests n y z =
      unless (deep step.at) (refused 1 0 0)
      (unless (strides step.at && (widths step.at && y)) (refused 5 0 0)
      (unless (eqb (length v) 16) (refused 6 1 0)
      (unless (fits step.at n && z) (refused 6 2 0)
      (unless (sound a m.steps m.levels (length m.index)) (refused 12 0 0)
      (outside (neg_ℤ (pos 262144)) (pos 262144) v)))))

  module _ (rows : within 4 65536 a.rows ≡ true) (low : leb (r + 4) a.rows ≡ true) where
    front-alone : (sound a m.steps m.levels (length m.index) ≡ false → mine.number ≡ 12 → ⊥) → mine ≡ front (length m.plane) step
    unfolding front
    front-alone h =
        let e : mine ≡ by_tests (length m.plane) true true = λ i. by_tests (size i) (rows i) (low i) in
        e
        ∙ same-front (deep step.at) (strides step.at) (widths step.at) (eqb (length v) 16) (fits step.at (length m.plane))
        (sound a m.steps m.levels (length m.index)) (outside (neg_ℤ (pos 262144)) (pos 262144) v) (λ s z. h s (ap (λ (x : Answer). x.number) e ∙ z))

    pub step-alone : ((C.step_of a d r c v m).0.number ≡ 12 → ⊥) → ((C.step_of a d r c v m).0.number ≡ 14 → ⊥)
        → ((C.step_of a d r c v m).0, (C.step_of a d r c v m).1.plane) ≡ S.step_of m.plane step
    unfolding C.step_of gaining judged
    step-alone no12 no14 =
        let rest = step_samples a d r c v m in
        let f = front-alone (λ s z. no12 (ap (λ (x : Answer). x.number) (then-stops mine rest (λ q. absurd (omega arith))) ∙ z)) in
        let e : step_verdict a d r c v m ≡ and_then (front (length m.plane) step) tests =
        same-verdict mine tests (room m.steps) tests-done no14 ∙ ap (λ (x : Answer). and_then x tests) f in
        (λ i. (step_verdict a d r c v m, plane-of (eqb (step_verdict a d r c v m).number 0) m (stepped a d r c v m) i))
        ∙ ap (λ (x : Answer). (x, unless (eqb x.number 0) m.plane left)) e

    pub accepted-is : sound a m.steps m.levels (length m.index) ≡ true → room m.steps ≡ true → (S.step_of m.plane step).0.number ≡ 0
        → C.step_of a d r c v m ≡ (done, stepped a d r c v m)
    unfolding C.step_of
    accepted-is s free e =
        let n = length m.plane in
        let t = L.accepted (front n step) (sample d) (spots a.stride r c) m.plane (item (iwht v)) e in
        let f : mine ≡ done = front-alone (λ z _. subst T (sym s ∙ z) tt) ∙ front-done n step (fine n step t.0) in
        let g : tests ≡ done = B.passed (sample d) (spots a.stride r c) m.plane (item (iwht v)) t.1 in
        ap (λ (x : Answer). ends x m (stepped a d r c v m)) (λ i. and_then (f i) (and_then (g i) (unless (free i) (refused 14 0 0) done)))

  plane-taken : (C.step_of a d r c v m).0.number ≡ 0 → (C.step_of a d r c v m).1.plane ≡ left
  unfolding C.step_of
  plane-taken e = ap (λ (x : Answer × Lent). x.1.plane) (taken (step_verdict a d r c v m) m (stepped a d r c v m) e)

  -- where 14 applies, no list steps to a wanted block, or to any
  pub none : room m.steps ≡ false → (C.step_of a d r c v m).0.number ≡ 0 → ⊥
  unfolding C.step_of
  none full e =
      let t = then-passed tests (unless (room m.steps) (refused 14 0 0) done) (then-passed mine (step_samples a d r c v m) e).1 in
      subst T (sym (passed (room m.steps) 13 0 0 done t.1).0 ∙ full) tt

-- ---- the wanted block b at row r, column c
module _ (a : Area) (base : List ℤ) (m : Lent) (g : Good a base m) (d r c : ℕ) (b : List ℤ) where
  abbrev w : Where
  w = place d a.stride a.width r c

  abbrev levels : List ℤ
  levels = fwht (difference m.plane w b)

  module _ (rows : within 4 65536 a.rows ≡ true) (low : leb (r + 4) a.rows ≡ true) (ready : Ready m.plane w) (wanted : Samples d b) where
    pub exists : room m.steps ≡ true → ((C.step_of a d r c levels m).0 ≡ done) × Shows (C.step_of a d r c levels m).1.plane w b
    exists free =
        let p = m.plane in
        let x = W.exists p w b ready wanted in
        let e = ap (λ (y : Answer). y.number) x.0 in
        let t = accepted-is a m g.size d r c levels rows low (sound-make g.keeping) free e in
        let q = L.taken (front (length p) (attempt d a.stride a.width r c levels)) (sample d) (spots a.stride r c) p (item (iwht levels)) e in (
          ap (λ (y : Answer × Lent). y.0) t,
          subst (λ (y : List ℤ). Shows y w b) (ap (λ (y : Answer × List ℤ). y.1) q ∙ sym (ap (λ (y : Answer × Lent). y.1.plane) t)) x.1,
        )

    pub unique : (v : List ℤ) → (C.step_of a d r c v m).0.number ≡ 0 → Shows (C.step_of a d r c v m).1.plane w b → v ≡ levels
    unique v e sh =
        let q = step_is a base m g.size g.holds d r c v e in
        W.unique m.plane w b ready wanted v (ap (λ (y : Answer × List ℤ). y.0.number) q)
        (subst (λ (y : List ℤ). Shows y w b) (plane-taken a m g.size d r c v e ∙ sym (ap (λ (y : Answer × List ℤ). y.1) q)) sh)
