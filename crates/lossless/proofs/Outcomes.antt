-- Two outcomes that a public call's promise allows are the same. Assumes nothing.
use mathlib.Core.Path.{◌≡◌}
use mathlib.Core.List.{List}
use lib.IntN.{ℤ}
use Rattle.answers.specs.declared.Answer.{Answer}
use Rattle.answers.proofs.Verdicts.{one-outcome}
use Rattle.lossless.specs.Step.{Step, step_of, undo_of}

pub step-outcome : (p : List ℤ) (s : Step) {x y : Answer × List ℤ} → x ≡ step_of p s → y ≡ step_of p s → x ≡ y
step-outcome p s = one-outcome

pub undo-outcome : (p : List ℤ) (s : Step) {x y : Answer × List ℤ} → x ≡ undo_of p s → y ≡ undo_of p s → x ≡ y
undo-outcome p s = one-outcome
