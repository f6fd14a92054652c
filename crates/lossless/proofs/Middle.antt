-- Taking a step back out of the middle, on any kind of plane. Assumes nothing but what its module names: a refused step changes nothing, a taken one
-- is answered Done, step and undo are each other's opposite, and an undo and a step that share no sample give one result in either order.
--     exchange       two neighbouring steps that share no sample may be exchanged, and every later step is still taken
--     withdraw       the undo of a step with which no later one shares a sample is accepted at the end, and leaves what the list without it leaves
--     remains        a plane with such a history is what its remaining steps leave, each of them taken
use mathlib.Core.Path.{◌≡◌, refl, sym, ap, subst}
use mathlib.Core.Bool.{Bool, true, false}
use mathlib.Core.List.{List, [], ◌∷◌, ◌++◌}
use borrow.Author.Tests.{eqb-true, eqb-false}
use lib.Dec.{eqb}
use Rattle.answers.specs.declared.Answer.{Answer}
use Rattle.answers.specs.Answers.{done}
use Rattle.lossless.specs.History.{keep}
use Rattle.lossless.specs.Replay.{Replay, start, more, Clear, besides, Came, begin, attempted, undone}

module _
    {P A : Type 0}
    (step undo : P → A → Answer × P)
    (R : A → A → Type 0)
    (kept : (p : P) (a : A) → ((step p a).0.number ≡ 0 → ⊥) → (step p a).1 ≡ p)
    (taken : (p : P) (a : A) → (step p a).0.number ≡ 0 → (step p a).0 ≡ done)
    (exact : (p q : P) (a : A) → step p a ≡ (done, q) → undo q a ≡ (done, p))
    (redo : (p q : P) (a : A) → undo p a ≡ (done, q) → step q a ≡ (done, p))
    (cross : (p q r : P) (a b : A) → R b a → undo p a ≡ (done, q) → step p b ≡ (done, r) → (t : P) × (undo r a ≡ (done, t)) × (step q b ≡ (done, t)))
  where
    -- a, then b, then us
    pub exchange : (p r : P) (us ts : List A) (a b : A) → R b a → Replay step p (us ++ b ∷ a ∷ ts) r → Replay step p (us ++ a ∷ b ∷ ts) r
    exchange p r [] ts a b n (more {q} (more {q = o} h e) f) =
        let d = cross q o r a b n (exact o q a e) f in
        more (more h d.2) (redo r d.0 a d.1)
    exchange p r (u ∷ us) ts a b n (more {q} h e) = more (exchange p q us ts a b n h) e

    pub withdraw : (p r : P) (us ts : List A) (a : A) → Clear R a us → Replay step p (us ++ a ∷ ts) r → (t : P) × (undo r a ≡ (done, t)) × Replay step p (us ++ ts) t
    withdraw p r [] ts a n (more {q} h e) = (q, exact q r a e, h)
    withdraw p r (u ∷ us) ts a (besides m n) (more {q} h e) =
        let i = withdraw p q us ts a n h in
        let d = cross q i.0 r a u m i.1 e in
        (d.0, d.1, more i.2 d.2)

    pub remains : (p r : P) (ts : List A) → Came step undo R p ts r → Replay step p ts r
    remains p r ts begin = start
    remains p r ts (attempted {q} {ts = us} a h) = by_answer (eqb (step q a).0.number 0) refl (remains p q us h)
      where
        by_answer : (b : Bool) → eqb (step q a).0.number 0 ≡ b → Replay step p us q → Replay step p (keep b a us) (step q a).1
        by_answer true e i = more i (λ j. (taken q a (eqb-true (step q a).0.number 0 e) j, (step q a).1))
        by_answer false e i = subst (λ (x : P). Replay step p us x) (sym (kept q a (eqb-false (step q a).0.number 0 e))) i
    remains p r ts (undone {q} {a} us vs h n) =
        let i = withdraw p q us vs a n (remains p q (us ++ a ∷ vs) h) in
        subst (λ (x : P). Replay step p (us ++ vs) x) (sym (ap (λ z. z.1) i.1)) i.2
