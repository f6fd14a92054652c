-- Sixteen samples that gain numbers, at any indices and under any test of a sample. Assumes nothing.
--     arrives, determined       the one number that leads from a sample to a wanted one
--     at-spot, elsewhere        the plane afterwards: at the sixteen indices, and at every other
--     Passes, passes, passed    the tests of 8 and 10 pass exactly where the samples' answer is Done
--     then-passes, then-back    opposite numbers pass afterwards, and bring the plane back
use mathlib.Core.Path.{◌≡◌, sym, ap, ◌∙◌}
use mathlib.Core.Bool.{Bool, true}
use mathlib.Core.List.{List}
use Prim.Native.Nat.{ℕ, ◌<◌}
use native.Mathlib.Nat.{le_of_eq}
use lib.IntN.{ℤ, pos, ◌+ℤ◌, ◌-ℤ◌, +ℤ_assoc, +ℤ_comm, +ℤ_idr, -ℤ-+ℤ_cancel, +ℤ-neg_ℤ_cancel}
use lib.ListN.{length}
use Rattle.whole.specs.Sums.{item}
use Rattle.answers.specs.Answers.{done}
use Rattle.answers.proofs.Verdicts.{search-passed, search-opens}
use Rattle.whole.specs.Search.{seek}
use Rattle.whole.proofs.Search.{seek-passed, seek-all}
use Rattle.lossless.specs.Gains.{gain, gained, present_ok, later_ok, leaves, samples, Lies}
use Rattle.lossless.proofs.Gains.{get_or-add_on, add_on-same, add_on-back, gain-back, gain-none, gain-at}

-- ---- from a sample x to a wanted one b
pub arrives : (x b : ℤ) {g : ℤ} → g ≡ b -ℤ x → x +ℤ g ≡ b
arrives x b e = ap (λ z. x +ℤ z) e ∙ +ℤ_comm x (b -ℤ x) ∙ -ℤ-+ℤ_cancel b x

pub determined : (x b g : ℤ) → x +ℤ g ≡ b → g ≡ b -ℤ x
determined x b g e = sym (+ℤ-neg_ℤ_cancel g x) ∙ ap (λ z. z -ℤ x) (+ℤ_comm g x ∙ e)

-- ---- the plane afterwards
module _ (at : ℕ → ℕ) (g : ℕ → ℤ) (p : List ℤ) where
  pub at-spot : Lies at (length p) → (k : ℕ) → k < 16 → item (gained at g p) (at k) ≡ item p (at k) +ℤ g k
  at-spot l k h =
      get_or-add_on (gain at g 16) p (at k) (l.inside k h)
      ∙ ap (λ z. item p (at k) +ℤ z) (gain-at at g 16 k (λ j i. l.apart j k i h) h)

  pub elsewhere : (i : ℕ) → ((k : ℕ) → k < 16 → at k ≡ i → ⊥) → item (gained at g p) i ≡ item p i
  elsewhere i other = add_on-same (gain at g 16) p i (gain-none at g 16 i other)

  pub then-back : (h : ℕ → ℤ) → ((k : ℕ) → g k +ℤ h k ≡ pos 0) → gained at h (gained at g p) ≡ p
  then-back h e = add_on-back (gain at g 16) (gain at h 16) (gain-back at g h e 16) p

-- ---- the tests
pub record Passes (ok : ℤ → Bool) (at : ℕ → ℕ) (p : List ℤ) (g : ℕ → ℤ) : Type 0 where
  pub present : (k : ℕ) → k < 16 → present_ok ok at p k ≡ true
  pub later : (k : ℕ) → k < 16 → later_ok ok at p g k ≡ true

module _ (ok : ℤ → Bool) (at : ℕ → ℕ) (p : List ℤ) (g : ℕ → ℤ) where
  pub passes : (samples ok at p g).number ≡ 0 → Passes ok at p g
  passes e =
      let a = search-passed 7 2 16 at (seek (present_ok ok at p) 0 16) (leaves ok at p g) e in
      let b = search-passed 9 2 16 at (seek (later_ok ok at p g) 0 16) done a.1 in
      record { present = seek-passed (present_ok ok at p) 16 a.0; later = seek-passed (later_ok ok at p g) 16 b.0 }

  pub passed : Passes ok at p g → samples ok at p g ≡ done
  passed t =
      search-opens 8 2 16 at (seek (present_ok ok at p) 0 16) (leaves ok at p g) (le_of_eq (sym (seek-all (present_ok ok at p) 0 16 t.present)))
      ∙ search-opens 10 2 16 at (seek (later_ok ok at p g) 0 16) done (le_of_eq (sym (seek-all (later_ok ok at p g) 0 16 t.later)))

pub then-passes : {ok : ℤ → Bool} {at : ℕ → ℕ} {p : List ℤ} {g : ℕ → ℤ} → Passes ok at p g → Lies at (length p) → (h : ℕ → ℤ)
    → ((k : ℕ) → g k +ℤ h k ≡ pos 0) → Passes ok at (gained at g p) h
then-passes {ok} {at} {p} {g} t l h e =
    record {
      present = λ k i. ap ok (at-spot at g p l k i) ∙ t.later k i;
      later = λ k i.
          ap (λ z. ok (z +ℤ h k)) (at-spot at g p l k i)
          ∙ ap ok (+ℤ_assoc (item p (at k)) (g k) (h k) ∙ ap (λ z. item p (at k) +ℤ z) (e k) ∙ +ℤ_idr (item p (at k)))
          ∙ t.present k i;
    }
