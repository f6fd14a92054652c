-- The answer of what goes on to a place, or is refused. Definitions only.
--     went_of r     number 0 and the place of what is stored next, or the refusal's answer
use Rattle.std.specs.Prelude.{ℕ, Result, Ok, Err}
use Rattle.answers.specs.declared.Answer.{Answer}
use Rattle.answers.specs.declared.Reason.{Reason}
use Rattle.answers.specs.Answers.{refused}
use Rattle.answers.specs.Reasons.{answer_of}

abbrev pub went_of : Result ℕ Reason → Answer
went_of (Ok p) = refused 0 0 p
went_of (Err r) = answer_of r
