-- A present block of bytes and a wanted one. Definitions only; from the mission's third demand, read over planes of bytes.
--     ReadyBytes b w        at w a block fits into the plane of bytes b, at depth 8
--     SixteenBytes c        sixteen bytes
--     ShowsBytes b w c      the plane b has the bytes c at w
--     step_to_bytes b w c     the step there whose levels are the forward transform of the wanted bytes less the present ones
use Rattle.std.specs.Prelude.{◌≡◌, true, List, map, ℕ, ◌<◌, pos, length, get_or}
use Rattle.octets.specs.Octets.{Bytes}
use Rattle.lossless.specs.Step.{Where, Step, spot, strides, widths, fits}
use Rattle.lossless.specs.Wanted.{step_to}

pub record ReadyBytes (b : List ℕ) (w : Where) : Type 0 where
  pub eight : w.depth ≡ 8
  pub wide : strides w ≡ true
  pub visible : widths w ≡ true
  pub fit : fits w (length b) ≡ true
  pub bytes : Bytes b

pub record SixteenBytes (c : List ℕ) : Type 0 where
  pub count : length c ≡ 16
  pub bytes : Bytes c

pub record ShowsBytes (b : List ℕ) (w : Where) (c : List ℕ) : Type 0 where
  pub shown : (k : ℕ) → k < 16 → get_or b (spot w k) 0 ≡ get_or c k 0

abbrev pub step_to_bytes : List ℕ → Where → List ℕ → Step
step_to_bytes b w c = step_to (map pos b) w (map pos c)
