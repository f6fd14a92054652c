-- Two outcomes that a public call's promise allows are the same. Assumes nothing.
use mathlib.Core.Path.{◌≡◌}
use mathlib.Core.List.{List}
use Prim.Native.Nat.{ℕ}
use Rattle.answers.specs.declared.Answer.{Answer}
use Rattle.answers.proofs.Verdicts.{one-outcome}
use Rattle.lossless.specs.Step.{Step}
use Rattle.bytesteps.specs.Steps.{step_bytes, undo_bytes}

pub step-outcome : (b : List ℕ) (s : Step) {x y : Answer × List ℕ} → x ≡ step_bytes b s → y ≡ step_bytes b s → x ≡ y
step-outcome b s = one-outcome

pub undo-outcome : (b : List ℕ) (s : Step) {x y : Answer × List ℕ} → x ≡ undo_bytes b s → y ≡ undo_bytes b s → x ≡ y
undo-outcome b s = one-outcome
