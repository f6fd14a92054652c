-- Histories of attempted steps, newest first, on any kind of plane P with any kind of arguments A. Definitions only; from the mission's third demand.
--     after p ts        the plane after the attempts ts, from p on
--     trail p ts        the steps that were taken, newest first, each with the plane that it found
--     newest k t        the arguments of the k newest steps of a trail, newest first
--     found p t k       the plane that stood before them; for k = 0 the present plane p
--     Undoes p ts q     undoing ts in turn, from p on, is never refused and ends at q
use Rattle.std.specs.Prelude.{◌≡◌, Bool, true, false, List, [], ◌∷◌, ℕ, zero, suc, eqb}
use Rattle.answers.specs.declared.Answer.{Answer}
use Rattle.answers.specs.Answers.{done}

abbrev pub keep : {X : Type 0} → Bool → X → List X → List X
keep true x xs = x ∷ xs
keep false x xs = xs

module _ {P A : Type 0} (step : P → A → Answer × P) where
  unfoldable pub after : P → List A → P
  after p [] = p
  after p (a ∷ ts) = (step (after p ts) a).1

  -- an attempt that was refused leaves no trace
  unfoldable pub trail : P → List A → List (A × P)
  trail p [] = []
  trail p (a ∷ ts) = keep (eqb (step (after p ts) a).0.number 0) (a, after p ts) (trail p ts)

unfoldable pub newest : {P A : Type 0} → ℕ → List (A × P) → List A
newest zero t = []
newest (suc k) [] = []
newest (suc k) (x ∷ t) = x.0 ∷ newest k t

unfoldable pub found : {P A : Type 0} → P → List (A × P) → ℕ → P
found p t zero = p
found p [] (suc k) = p
found p (x ∷ t) (suc k) = found x.1 t k

pub data Undoes {P A : Type 0} (undo : P → A → Answer × P) : P → List A → P → Type 0 where
  none : {p : P} → Undoes undo p [] p
  next : {p q r : P} {a : A} {ts : List A} → undo p a ≡ (done, q) → Undoes undo q ts r → Undoes undo p (a ∷ ts) r
