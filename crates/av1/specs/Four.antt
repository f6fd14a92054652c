-- The verdict on the inverse DCT of 4, which runs without a table. Definitions only.
--     four_verdict lo hi p q r s    refusal 15 at the first of the sum, the difference, the second sum and the second difference that lies outside lo .. hi
use Rattle.std.specs.Prelude.{ℤ}
use Rattle.answers.specs.declared.Answer.{Answer}
use Rattle.answers.specs.Answers.{done, refused, unless}
use Rattle.whole.specs.Numbers.{in_range}

unfoldable pub four_verdict : ℤ → ℤ → ℤ → ℤ → ℤ → ℤ → Answer
four_verdict lo hi p q r s =
    unless (in_range lo hi p) (refused 15 0 4)
    (unless (in_range lo hi q) (refused 15 0 5)
    (unless (in_range lo hi r) (refused 15 0 6)
    (unless (in_range lo hi s) (refused 15 0 7)
    done)))
