-- Stepping back, and the wanted block, from the mission's third demand and document 02, sections 2 and 8. Assumes nothing.
--     step-undone      a taken step is undone exactly, and the undo is accepted
--     steps-undone     undoing the k newest taken steps of any history, newest first, is never refused and brings back the plane that the oldest of them found
--     wanted-exists    from a present block to a wanted one, both in range, leads the forward transform of their difference: a taken step that shows the wanted block
--     wanted-only      no other levels do
--     step-elsewhere, undo-elsewhere    a sample that is none of the block's sixteen is what it was, after a step and after an undo, taken or refused
--     steps-replayed   (document 02, section 8) after steps, refused ones among them, and undos of steps of the list with which no later one there shares a
--                      sample, the plane is the list of those taken and not undone, replayed from the first plane, and every step of it is taken
--     step-withdrawn   where no later step of the list shares a sample with it, a step's undo is accepted at the end, and leaves the plane that the list
--                      without it leaves, every step of which is taken
--     steps-exchanged  two neighbouring steps that share no sample may be exchanged: the same final plane, both taken, and every later one
--     pad-kept         a sample at or past the visible width is the same after any row of steps and undos, taken or refused, that all have that width and stride (document 02, section 2)
use mathlib.Core.Path.{◌≡◌}
use mathlib.Core.List.{List, ◌∷◌, ◌++◌}
use Prim.Native.Nat.{ℕ, ◌≤◌, ◌<◌}
use lib.IntN.{ℤ}
use lib.ListN.{length}
use Rattle.whole.specs.Sums.{item}
use Rattle.answers.specs.Answers.{done}
use Rattle.wht.specs.Wht.{fwht}
use Rattle.lossless.specs.Step.{Where, Step, spot, step_of, undo_of}
use Rattle.lossless.specs.Pad.{call_of, Call, InPads}
use Rattle.lossless.proofs.Pad.{pad-calls}
use Rattle.lossless.specs.History.{after, trail, newest, found, Undoes}
use Rattle.lossless.specs.Wanted.{Ready, Samples, Shows, difference, step_with, step_to}
use Rattle.lossless.proofs.History.{history}
use Rattle.lossless.specs.Replay.{Apart, Replay, Clear, Came}
use Rattle.lossless.proofs.Undo.{undo-exact, step-outside, undo-outside}
use Rattle.lossless.proofs.Withdrawals.{steps-remain, steps-withdraw, steps-exchange}
use Rattle.lossless.proofs.Wanted.{exists, unique}

pub step-undone : (p : List ℤ) (s : Step) → (step_of p s).0.number ≡ 0 → undo_of (step_of p s).1 s ≡ (done, p)
step-undone = undo-exact

pub steps-undone : (p : List ℤ) (ts : List Step) (k : ℕ) → k ≤ length (trail step_of p ts)
    → Undoes undo_of (after step_of p ts) (newest k (trail step_of p ts)) (found (after step_of p ts) (trail step_of p ts) k)
steps-undone = history

module _ (p : List ℤ) (w : Where) (b : List ℤ) (present : Ready p w) (wanted : Samples w.depth b) where
  pub wanted-exists : ((step_of p (step_to p w b)).0 ≡ done) × Shows (step_of p (step_to p w b)).1 w b
  wanted-exists = exists p w b present wanted

  pub wanted-only : (l : List ℤ) → (step_of p (step_with w l)).0.number ≡ 0 → Shows (step_of p (step_with w l)).1 w b → l ≡ fwht (difference p w b)
  wanted-only = unique p w b present wanted

pub pad-kept : (p : List ℤ) (cs : List Call) (i : ℕ) → InPads i cs → item (after call_of p cs) i ≡ item p i
pad-kept = pad-calls

-- ---- out of the middle
module _ (p r : List ℤ) where
  pub steps-replayed : (ts : List Step) → Came step_of undo_of Apart p ts r → Replay step_of p ts r
  steps-replayed = steps-remain p r

  pub step-withdrawn : (us ts : List Step) (s : Step) → Clear Apart s us → Replay step_of p (us ++ s ∷ ts) r → (x : List ℤ) × (undo_of r s ≡ (done, x)) × Replay step_of p (us ++ ts) x
  step-withdrawn = steps-withdraw p r

  pub steps-exchanged : (us ts : List Step) (s t : Step) → Apart t s → Replay step_of p (us ++ t ∷ s ∷ ts) r → Replay step_of p (us ++ s ∷ t ∷ ts) r
  steps-exchanged = steps-exchange p r

-- ---- everywhere else
module _ (p : List ℤ) (s : Step) (i : ℕ) (other : (k : ℕ) → k < 16 → spot s.at k ≡ i → ⊥) where
  pub step-elsewhere : item (step_of p s).1 i ≡ item p i
  step-elsewhere = step-outside p s i other

  pub undo-elsewhere : item (undo_of p s).1 i ≡ item p i
  undo-elsewhere = undo-outside p s i other
