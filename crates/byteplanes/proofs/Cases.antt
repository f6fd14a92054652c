-- The order of the refusals of a call on bytes, by cases that several apply to: each is computed. Assumes nothing.
use mathlib.Core.Path.{◌≡◌, refl}
use mathlib.Core.Bool.{true}
use mathlib.Core.List.{[]}
use Rattle.whole.specs.Search.{seek}
use Rattle.answers.specs.Answers.{refused}
use Rattle.byteplanes.specs.Bytes.{bytes_verdict}

-- depth 9, size 25, type 256, stride 0, no coefficients and no plane
pub one-first : bytes_verdict true 0 0 [] 256 25 9 ≡ refused 1 0 0
unfolding bytes_verdict seek
one-first = refl

-- the same at depth 8
pub two-second : bytes_verdict true 0 0 [] 256 25 8 ≡ refused 2 0 0
unfolding bytes_verdict seek
two-second = refl

-- with size 64x64, and with 4x64
pub eleven-before-three : (bytes_verdict true 0 0 [] 256 4 8 ≡ refused 11 0 0) × (bytes_verdict true 0 0 [] 256 23 8 ≡ refused 11 0 0)
unfolding bytes_verdict seek
eleven-before-three = (refl, refl)

-- with size 32x32
pub three-then : bytes_verdict true 0 0 [] 256 3 8 ≡ refused 3 0 0
unfolding bytes_verdict seek
three-then = refl
