-- From a present block to a wanted one leads exactly one list of levels: the forward transform of their difference. Assumes nothing.
--     exists      it is a taken step, and the plane then shows the wanted samples
--     unique      no other list of levels is one
use mathlib.Core.Path.{◌≡◌, refl, sym, ap, ◌∙◌, subst}
use mathlib.Core.List.{List}
use Prim.Native.Nat.{ℕ, ◌<◌}
use native.Mathlib.Nat.{le_trans}
use native.Mathlib.Omega.{arith}
use lib.Dec.{lit≤}
use lib.IntN.{ℤ, pos, ◌+ℤ◌, ◌-ℤ◌}
use lib.ListN.{length}
use lib.Seq.{ext_get_or}
use Rattle.answers.specs.declared.Answer.{Answer}
use Rattle.answers.specs.Answers.{done}
use Rattle.whole.specs.Sums.{Within, item}
use Rattle.whole.proofs.Fill.{tab-at, within-tab}
use Rattle.whole.proofs.Size.{abs-sub}
use Rattle.wht.specs.Wht.{fwht, iwht}
use Rattle.wht.proofs.Inverse.{iwht-fwht, fwht-iwht, fwht-length, iwht-length}
use Rattle.wht.proofs.Size.{fwht-size}
use Rattle.lossless.specs.Step.{Where, spot, sample, front, step_of}
use Rattle.lossless.specs.Wanted.{Ready, Samples, Shows, difference, step_with, step_to}
use Rattle.lossless.proofs.Adding.{sample-size}
use Rattle.lossless.proofs.Arguments.{Fine, fine, front-done, depth_is, lies}
use Rattle.lossless.proofs.Blocks.{arrives, determined}
use Rattle.lossless.proofs.Calls.{accepted, taking, taken_at}

module _ (p : List ℤ) (w : Where) (b : List ℤ) (r : Ready p w) (wanted : Samples w.depth b) where
  abbrev gap : ℕ → ℤ
  gap k = item b k -ℤ item p (spot w k)

  abbrev levels : List ℤ
  levels = fwht (difference p w b)

  small : Within 8190 (difference p w b)
  small =
      within-tab 8190 16 gap
      (λ k h. omega (
        arith,
        abs-sub (item b k) (item p (spot w k)),
        sample-size w.depth (item b k) (depth_is w r.depths).1 (wanted.good k h),
        sample-size w.depth (item p (spot w k)) (depth_is w r.depths).1 (r.present k h),
      ))

  residual-is : (k : ℕ) → k < 16 → item (iwht levels) k ≡ gap k
  residual-is k h = ap (λ l. item l k) (iwht-fwht (difference p w b) refl) ∙ tab-at (pos 0) 16 gap k h

  arriving : (k : ℕ) → k < 16 → item p (spot w k) +ℤ item (iwht levels) k ≡ item b k
  arriving k h = arrives (item p (spot w k)) (item b k) (residual-is k h)

  front-fine : Fine (length p) (step_to p w b)
  front-fine =
      record {
        depths = r.depths;
        wide = r.wide;
        visible = r.visible;
        fit = r.fit;
        levels = record { count = fwht-length (difference p w b); small = λ k h. le_trans (fwht-size (difference p w b) small k) (lit≤ tt) };
      }

  taking-it : (step_of p (step_to p w b)).0 ≡ done
  taking-it =
      ap (λ x. x.0) (taking (front (length p) (step_to p w b)) (sample w.depth) (spot w) p (item (iwht levels))
      (ap (λ (a : Answer). a.number) (front-done (length p) (step_to p w b) front-fine))
      (record { present = r.present; later = λ k h. ap (sample w.depth) (arriving k h) ∙ wanted.good k h }))

  -- a taken step there with the levels l
  module _ (l : List ℤ) (e : (step_of p (step_with w l)).0.number ≡ 0) where
    args : Fine (length p) (step_with w l)
    args = fine (length p) (step_with w l) (accepted (front (length p) (step_with w l)) (sample w.depth) (spot w) p (item (iwht l)) e).0

    gives : (k : ℕ) → k < 16 → item (step_of p (step_with w l)).1 (spot w k) ≡ item p (spot w k) +ℤ item (iwht l) k
    gives = taken_at (front (length p) (step_with w l)) (sample w.depth) (spot w) p (item (iwht l)) (lies args) e

  pub exists : ((step_of p (step_to p w b)).0 ≡ done) × Shows (step_of p (step_to p w b)).1 w b
  exists = (taking-it, record { shown = λ k h. gives levels (ap (λ (a : Answer). a.number) taking-it) k h ∙ arriving k h })

  pub unique : (l : List ℤ) → (step_of p (step_with w l)).0.number ≡ 0 → Shows (step_of p (step_with w l)).1 w b → l ≡ levels
  unique l e sh =
      sym (fwht-iwht l (args l e).levels.count)
      ∙ ap fwht (ext_get_or (pos 0) (iwht l) (difference p w b) (iwht-length l) (λ k h. same k (subst (λ (n : ℕ). k < n) (iwht-length l) h)))
    where
      same : (k : ℕ) → k < 16 → item (iwht l) k ≡ item (difference p w b) k
      same k h =
          determined (item p (spot w k)) (item b k) (item (iwht l) k) (sym (gives l e k h) ∙ sh.shown k h)
          ∙ sym (tab-at (pos 0) 16 gap k h)
