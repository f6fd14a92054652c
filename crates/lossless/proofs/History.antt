-- Undoing any number of the newest taken steps brings back the plane that the oldest of them found. Assumes nothing.
--     back         on any kind of plane, where a refused step changes nothing and a taken one is undone exactly
--     history      the lossless steps
use mathlib.Core.Path.{◌≡◌, refl}
use mathlib.Core.Bool.{Bool, true, false}
use mathlib.Core.List.{List, [], ◌∷◌}
use Prim.Native.Nat.{ℕ, zero, suc, ◌≤◌}
use native.Mathlib.Nat.{not-suc-le-zero}
use native.Mathlib.Omega.{arith}
use borrow.Author.Tests.{eqb-true, eqb-false}
use lib.Dec.{eqb}
use lib.IntN.{ℤ}
use lib.ListN.{length}
use Rattle.whole.specs.Sums.{item}
use Rattle.answers.specs.declared.Answer.{Answer}
use Rattle.answers.specs.Answers.{done}
use Rattle.wht.specs.Wht.{iwht}
use Rattle.lossless.specs.Step.{Step, spot, sample, front, step_of, undo_of}
use Rattle.lossless.specs.History.{keep, after, trail, newest, found, Undoes, none, next}
use Rattle.lossless.proofs.Calls.{refused-is}
use Rattle.lossless.proofs.Undo.{undo-exact}

module _
    {P A : Type 0}
    (step undo : P → A → Answer × P)
    (kept : (p : P) (a : A) → ((step p a).0.number ≡ 0 → ⊥) → (step p a).1 ≡ p)
    (exact : (p : P) (a : A) → (step p a).0.number ≡ 0 → undo (step p a).1 a ≡ (done, p))
  where
    pub back : (p : P) (ts : List A) (k : ℕ) → k ≤ length (trail step p ts)
        → Undoes undo (after step p ts) (newest k (trail step p ts)) (found (after step p ts) (trail step p ts) k)
    unfolding after trail found newest
    back p [] zero h = none
    back p [] (suc k) h = absurd (not-suc-le-zero h)
    back p (a ∷ ts) k h = by_answer (back p ts) (eqb (step (after step p ts) a).0.number 0) refl k h
      where
        q : P
        q = after step p ts

        t : List (A × P)
        t = trail step p ts

        by_answer : ((k : ℕ) → k ≤ length t → Undoes undo q (newest k t) (found q t k)) → (b : Bool) → eqb (step q a).0.number 0 ≡ b → (k : ℕ) → k ≤ length (keep b (a, q) t)
            → Undoes undo (step q a).1 (newest k (keep b (a, q) t)) (found (step q a).1 (keep b (a, q) t) k)
        by_answer r true e zero h = none
        by_answer r true e (suc k) h = next (exact q a (eqb-true (step q a).0.number 0 e)) (r k (omega arith))
        by_answer r false e k h = rw (kept q a (eqb-false (step q a).0.number 0 e)) (r k h)

pub history : (p : List ℤ) (ts : List Step) (k : ℕ) → k ≤ length (trail step_of p ts)
    → Undoes undo_of (after step_of p ts) (newest k (trail step_of p ts)) (found (after step_of p ts) (trail step_of p ts) k)
history = back step_of undo_of (λ p s. refused-is (front (length p) s) (sample s.at.depth) (spot s.at) p (item (iwht s.levels))) undo-exact
