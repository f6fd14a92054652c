-- A whole call by its parts, at any indices and under any test of a sample: f is the answer by the arguments alone, p the plane, g what the samples are to gain.
-- Assumes nothing.
--     refused-call, passed-call            by the answer f
--     accepted, taking                     every test passes exactly where the answer is Done, and then the samples gain
--     refused-is                           a refused call leaves what it found
--     same_length, same-elsewhere          taken or refused, a call changes no length, and no sample but the sixteen
--     taken, taken_at                      a taken call: each of the sixteen has gained its number
--     there_and_back                       a taken call is undone exactly by the opposite numbers
use mathlib.Core.Path.{◌≡◌, refl, sym, ap, ◌∙◌}
use mathlib.Core.Bool.{Bool, true, false}
use mathlib.Core.List.{List}
use Prim.Native.Nat.{ℕ, ◌<◌}
use borrow.Author.Tests.{eqb-true, eqb-false, eq-eqb, ne_eqb}
use lib.Dec.{eqb}
use lib.IntN.{ℤ, pos, ◌+ℤ◌}
use lib.ListN.{length}
use Rattle.whole.specs.Sums.{item}
use Rattle.answers.specs.declared.Answer.{Answer}
use Rattle.answers.specs.Answers.{done, unless, ends}
use Rattle.answers.proofs.Endings.{ends-refused}
use Rattle.answers.proofs.Verdicts.{opens, stops, left}
use Rattle.lossless.specs.Gains.{gain, gained, samples, judged, gaining, Lies}
use Rattle.lossless.proofs.Gains.{length-add_on}
use Rattle.lossless.proofs.Blocks.{Passes, passes, passed, at-spot, elsewhere, then-passes, then-back}

module _ (f : Answer) (ok : ℤ → Bool) (at : ℕ → ℕ) (p : List ℤ) (g : ℕ → ℤ) where
  abbrev after : List ℤ
  after = gained at g p

  -- a is what the judge of the arguments answered
  pub refused-call : {a : Answer} → a ≡ f → (a.number ≡ 0 → ⊥) → (a, p) ≡ gaining f ok at p g
  unfolding gaining judged
  refused-call e h =
      ends-refused e p after h
      ∙ ap (λ a. ends a p after) (sym (stops f (samples ok at p g) (ne_eqb f.number 0 (λ q. h (ap (λ (x : Answer). x.number) e ∙ q)))))

  pub passed-call : f.number ≡ 0 → gaining f ok at p g ≡ ends (samples ok at p g) p after
  unfolding gaining judged
  passed-call e = ap (λ a. ends a p after) (opens f (samples ok at p g) (eq-eqb f.number 0 e))

  pub taking : f.number ≡ 0 → Passes ok at p g → gaining f ok at p g ≡ (done, after)
  taking e t = passed-call e ∙ ap (λ x. ends x p after) (passed ok at p g t)

  pub accepted : (gaining f ok at p g).0.number ≡ 0 → (f.number ≡ 0) × Passes ok at p g
  unfolding gaining judged
  accepted e = by_front (eqb f.number 0) refl e
    where
      by_front : (b : Bool) → eqb f.number 0 ≡ b → (unless b f (samples ok at p g)).number ≡ 0 → (f.number ≡ 0) × Passes ok at p g
      by_front true q r = (eqb-true f.number 0 q, passes ok at p g r)
      by_front false q r = absurd (eqb-false f.number 0 q r)

  pub refused-is : ((gaining f ok at p g).0.number ≡ 0 → ⊥) → (gaining f ok at p g).1 ≡ p
  unfolding gaining
  refused-is h = left (judged f ok at p g) p after h

  -- taken or refused
  either : (P : List ℤ → Type 0) → P p → P after → P (gaining f ok at p g).1
  unfolding gaining
  either P a b = by_answer (eqb (judged f ok at p g).number 0)
    where
      by_answer : (t : Bool) → P (unless t p after)
      by_answer true = b
      by_answer false = a

  pub same_length : length (gaining f ok at p g).1 ≡ length p
  same_length = either (λ q. length q ≡ length p) refl (length-add_on (gain at g 16) p)

  pub same-elsewhere : (i : ℕ) → ((k : ℕ) → k < 16 → at k ≡ i → ⊥) → item (gaining f ok at p g).1 i ≡ item p i
  same-elsewhere i other = either (λ q. item q i ≡ item p i) refl (elsewhere at g p i other)

  pub taken : (gaining f ok at p g).0.number ≡ 0 → gaining f ok at p g ≡ (done, after)
  taken e = let a = accepted e in taking a.0 a.1

  pub taken_at : Lies at (length p) → (gaining f ok at p g).0.number ≡ 0 → (k : ℕ) → k < 16 → item (gaining f ok at p g).1 (at k) ≡ item p (at k) +ℤ g k
  taken_at l e k h = ap (λ x. item x.1 (at k)) (taken e) ∙ at-spot at g p l k h

-- f and f' are the answers by the arguments of the two calls, g and h their opposite numbers
module _ (f f' : Answer) (ok : ℤ → Bool) (at : ℕ → ℕ) (p : List ℤ) (g h : ℕ → ℤ) (o : (k : ℕ) → g k +ℤ h k ≡ pos 0) where
  pub there_and_back : Lies at (length p) → (gaining f ok at p g).0.number ≡ 0 → f'.number ≡ 0 → gaining f' ok at (gaining f ok at p g).1 h ≡ (done, p)
  there_and_back l e d =
      ap (λ x. gaining f' ok at x.1 h) (taken f ok at p g e)
      ∙ taking f' ok at (gained at g p) h d (then-passes (accepted f ok at p g e).1 l h o)
      ∙ ap (λ x. (done, x)) (then-back at g p h o)
