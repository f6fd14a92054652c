-- The refusals by name, and the answers that they are. Definitions only; from document 01, "Reason numbers", and document 02.
--     slice_of s      the number of a slice
--     answer_of r     the answer of a refusal: its number, the slice concerned, the place
--     verdict_of v    the answer of a verdict: Done where nothing is refused
use Rattle.std.specs.Prelude.{ℕ, Result, Ok, Err}
use Rattle.answers.specs.declared.Answer.{Answer}
use Rattle.answers.specs.declared.Slice.{Slice}
use Rattle.answers.specs.declared.Slice.TheVariants.{Read, Picture, Output, FirstChroma, SecondChroma}
use Rattle.answers.specs.declared.Reason.{Reason}
use Rattle.answers.specs.declared.Reason.TheVariants as R
use Rattle.answers.specs.Answers.{done, refused}

abbrev pub slice_of : Slice → ℕ
slice_of Read = 1
slice_of Picture = 2
slice_of Output = 3
slice_of FirstChroma = 4
slice_of SecondChroma = 5

abbrev pub answer_of : Reason → Answer
answer_of R.Depth = refused 1 0 0
answer_of R.Size = refused 2 0 0
answer_of R.Type = refused 3 0 0
answer_of R.HorizontalKind = refused 4 0 0
answer_of R.VerticalKind = refused 4 0 1
answer_of R.Stride = refused 5 0 0
answer_of (R.Length s) = refused 6 (slice_of s) 0
answer_of (R.Level s p) = refused 7 (slice_of s) p
answer_of (R.Sample p) = refused 8 2 p
answer_of R.Sine = refused 9 0 0
answer_of R.Cosine = refused 9 0 1
answer_of (R.Leaving p) = refused 10 2 p
answer_of R.LargeSide = refused 11 0 0
answer_of R.History = refused 12 0 0
answer_of (R.Step n) = refused 13 0 n
answer_of R.Full = refused 14 0 0
answer_of (R.Between p) = refused 15 0 p

abbrev pub verdict_of : Result Unit Reason → Answer
verdict_of (Ok u) = done
verdict_of (Err r) = answer_of r
