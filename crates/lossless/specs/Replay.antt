-- Histories out of whose middle steps are taken back, and their replay. Definitions only; from document 02, section 8. Lists are newest first.
-- By plane index: steps may differ in stride, width and depth.
--     Shares v w            the blocks at v and at w share a sample: some index in the plane is one of both
--     Apart s t             the steps share no sample
-- On any kind of plane P with any kind of arguments A, R b a saying that b and a share no sample:
--     Replay p ts r         from the plane p the steps ts are all taken, one after the other, and leave r
--     Clear R a us          none of us shares a sample with a
--     Came p ts r           p has come to r, nothing else having written to it. Steps were attempted, those refused leaving no trace, and steps
--                           of the list were undone with which no later one there shares a sample; ts is the list of those taken and not undone
use Rattle.std.specs.Prelude.{◌≡◌, List, [], ◌∷◌, ◌++◌, ℕ, ◌<◌, eqb}
use Rattle.answers.specs.declared.Answer.{Answer}
use Rattle.answers.specs.Answers.{done}
use Rattle.lossless.specs.Step.{Where, Step, spot}
use Rattle.lossless.specs.History.{keep}

pub record Shares (v w : Where) : Type 0 where
  pub mine : ℕ
  pub other : ℕ
  pub mine-in : mine < 16
  pub other-in : other < 16
  pub same : spot v mine ≡ spot w other

pub record Apart (s t : Step) : Type 0 where
  pub none : Shares s.at t.at → ⊥

module _ {P A : Type 0} (step : P → A → Answer × P) where
  pub data Replay (p : P) : List A → P → Type 0 where
    start : Replay p [] p
    more : {q r : P} {a : A} {ts : List A} → Replay p ts q → step q a ≡ (done, r) → Replay p (a ∷ ts) r

pub data Clear {A : Type 0} (R : A → A → Type 0) (a : A) : List A → Type 0 where
  clear : Clear R a []
  besides : {u : A} {us : List A} → R u a → Clear R a us → Clear R a (u ∷ us)

module _ {P A : Type 0} (step undo : P → A → Answer × P) (R : A → A → Type 0) where
  pub data Came (p : P) : List A → P → Type 0 where
    begin : Came p [] p
    attempted : {q : P} {ts : List A} (a : A) → Came p ts q → Came p (keep (eqb (step q a).0.number 0) a ts) (step q a).1
    undone : {q : P} {a : A} (us ts : List A) → Came p (us ++ a ∷ ts) q → Clear R a us → Came p (us ++ ts) (undo q a).1
