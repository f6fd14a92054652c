-- The run of the table of length 4, step by step. Assumes nothing.
--     A, B, C, D, verdict_of, results_of    what the two turns, the sums and the differences leave
--     four-at                             the run on a list of length 4
use mathlib.Core.Path.{◌≡◌, refl, sym, ap, ◌∙◌}
use mathlib.Core.Bool.{Bool, true, false}
use mathlib.Core.List.{List, [], ◌∷◌}
use Prim.Native.Nat.{ℕ}
use lib.IntN.{ℤ, pos, ◌+ℤ◌, ◌-ℤ◌}
use lib.ListN.{length}
use Rattle.answers.specs.declared.Answer.{Answer}
use Rattle.answers.specs.Answers.{done, ends}
use Rattle.whole.specs.Numbers.{in_range}
use Rattle.whole.specs.Sums.{tab, item}
use Rattle.whole.proofs.Fill.{tab-list}
use Rattle.av1.specs.Steps.{turn_x, turn_y, sums_of, step_of, onward, goes}
use Rattle.av1.specs.Tables.{angles4, from4, ops4}
use Rattle.av1.specs.Calls.{settled, ran}
use Rattle.av1.specs.Four.{four_verdict}

abbrev pub A : ℤ → ℤ → ℤ
A x z = turn_y (pos 2896) (pos 2896) x z

abbrev pub B : ℤ → ℤ → ℤ
B x z = turn_x (pos 2896) (pos 2896) x z

abbrev pub C : ℤ → ℤ → ℤ
C y v = turn_x (pos 1567) (pos 3784) y v

abbrev pub D : ℤ → ℤ → ℤ
D y v = turn_y (pos 1567) (pos 3784) y v

-- the verdict, and the results in their places
abbrev pub verdict_of : ℤ → ℤ → ℤ → ℤ → ℤ → ℤ → Answer
verdict_of lo hi x y z v = four_verdict lo hi (A x z +ℤ D y v) (A x z -ℤ D y v) (B x z +ℤ C y v) (B x z -ℤ C y v)

abbrev pub results_of : ℤ → ℤ → ℤ → ℤ → List ℤ
results_of x y z v = (A x z +ℤ D y v) ∷ (B x z +ℤ C y v) ∷ (B x z -ℤ C y v) ∷ (A x z -ℤ D y v) ∷ []

-- two sums and two differences, of any four numbers
abbrev two_sums : ℤ → ℤ → List ℤ → List ℤ → Answer × List ℤ
two_sums lo hi t l = settled t (onward (sums_of lo hi 0 3 4 l) (λ q u. onward (sums_of lo hi 1 2 q u) (λ k m. (done, m))))

module _ (lo hi a b c d : ℤ) (t : List ℤ) where
  abbrev Same : Type 0
  Same = two_sums lo hi t (a ∷ b ∷ c ∷ d ∷ []) ≡ ends (four_verdict lo hi (a +ℤ d) (a -ℤ d) (b +ℤ c) (b -ℤ c)) t ((a +ℤ d) ∷ (b +ℤ c) ∷ (b -ℤ c) ∷ (a -ℤ d) ∷ [])

  sums-are : Same
  unfolding four_verdict
  sums-are = by₀ (in_range lo hi (a +ℤ d)) refl
    where
      by₃ : in_range lo hi (a +ℤ d) ≡ true → in_range lo hi (a -ℤ d) ≡ true → in_range lo hi (b +ℤ c) ≡ true → (x : Bool) → in_range lo hi (b -ℤ c) ≡ x → Same
      by₃ e₀ e₁ e₂ true e = rw (e₀, e₁, e₂, e)
      by₃ e₀ e₁ e₂ false e = rw (e₀, e₁, e₂, e)

      by₂ : in_range lo hi (a +ℤ d) ≡ true → in_range lo hi (a -ℤ d) ≡ true → (x : Bool) → in_range lo hi (b +ℤ c) ≡ x → Same
      by₂ e₀ e₁ true e = by₃ e₀ e₁ e (in_range lo hi (b -ℤ c)) refl
      by₂ e₀ e₁ false e = rw (e₀, e₁, e)

      by₁ : in_range lo hi (a +ℤ d) ≡ true → (x : Bool) → in_range lo hi (a -ℤ d) ≡ x → Same
      by₁ e₀ true e = by₂ e₀ e (in_range lo hi (b +ℤ c)) refl
      by₁ e₀ false e = rw (e₀, e)

      by₀ : (x : Bool) → in_range lo hi (a +ℤ d) ≡ x → Same
      by₀ true e = by₁ e (in_range lo hi (a -ℤ d)) refl
      by₀ false e = rw e

-- the two turns come first
turns-are : (lo hi x y z v : ℤ) → ran lo hi angles4 from4 ops4 4 (x ∷ y ∷ z ∷ v ∷ []) ≡ two_sums lo hi (x ∷ y ∷ z ∷ v ∷ []) (A x z ∷ B x z ∷ C y v ∷ D y v ∷ [])
unfolding goes step_of
turns-are lo hi x y z v = refl

four_is : (lo hi x y z v : ℤ) → ran lo hi angles4 from4 ops4 4 (x ∷ y ∷ z ∷ v ∷ []) ≡ ends (verdict_of lo hi x y z v) (x ∷ y ∷ z ∷ v ∷ []) (results_of x y z v)
four_is lo hi x y z v = turns-are lo hi x y z v ∙ sums-are lo hi (A x z) (B x z) (C y v) (D y v) (x ∷ y ∷ z ∷ v ∷ [])

pub list-is : (t : List ℤ) → length t ≡ 4 → item t 0 ∷ item t 1 ∷ item t 2 ∷ item t 3 ∷ [] ≡ t
list-is t h = ap (λ (n : ℕ). tab n (λ k. item t k)) (sym h) ∙ tab-list (pos 0) t

pub four-at : (lo hi : ℤ) (t : List ℤ) → length t ≡ 4 → ran lo hi angles4 from4 ops4 4 t ≡ ends (verdict_of lo hi (item t 0) (item t 1) (item t 2) (item t 3)) t (results_of (item t 0) (item t 1) (item t 2) (item t 3))
four-at lo hi t h =
    ap (ran lo hi angles4 from4 ops4 4) (sym (list-is t h))
    ∙ four_is lo hi (item t 0) (item t 1) (item t 2) (item t 3)
    ∙ ap (λ (l : List ℤ). ends (verdict_of lo hi (item t 0) (item t 1) (item t 2) (item t 3)) l (results_of (item t 0) (item t 1) (item t 2) (item t 3))) (list-is t h)
