-- The pad of a line: its samples at and past the visible width. Definitions only; from document 02, section 2.
--     InPad w i         the sample i stands in the pad, by the stride and the width of w
--     Call, call_of      a step, or an undo
--     InPads i cs       the sample i stands in the pad of each of the calls cs
use Rattle.std.specs.Prelude.{Bool, cond, List, [], ◌∷◌, ℕ, ◌%◌, ◌≤◌, ℤ}
use Rattle.answers.specs.declared.Answer.{Answer}
use Rattle.lossless.specs.Step.{Where, Step, step_of, undo_of}

abbrev pub InPad : Where → ℕ → Type 0
InPad w i = w.width ≤ i % w.stride

pub record Call : Type 0 where
  pub undo : Bool
  pub step : Step

abbrev pub call_of : List ℤ → Call → Answer × List ℤ
call_of p c = cond c.undo (undo_of p c.step) (step_of p c.step)

pub data InPads (i : ℕ) : List Call → Type 0 where
  none : InPads i []
  more : {c : Call} {cs : List Call} → InPad c.step.at i → InPads i cs → InPads i (c ∷ cs)
