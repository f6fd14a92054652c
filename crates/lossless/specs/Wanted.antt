-- A present block and a wanted one. Definitions only; from the mission's third demand.
--     Ready p w            at w a block fits into the plane p, and its samples are in range
--     Samples depth b      sixteen samples in range
--     Shows p w b          the plane p has the samples b at w
--     difference p w b     the wanted samples less the present ones
use Rattle.std.specs.Prelude.{◌≡◌, true, List, ℕ, ◌<◌, ℤ, ◌-ℤ◌, length}
use Rattle.whole.specs.Sums.{tab, item}
use Rattle.wht.specs.Wht.{fwht}
use Rattle.lossless.specs.Step.{Where, Step, spot, sample, deep, strides, widths, fits}

pub record Ready (p : List ℤ) (w : Where) : Type 0 where
  pub depths : deep w ≡ true
  pub wide : strides w ≡ true
  pub visible : widths w ≡ true
  pub fit : fits w (length p) ≡ true
  pub present : (k : ℕ) → k < 16 → sample w.depth (item p (spot w k)) ≡ true

pub record Samples (depth : ℕ) (b : List ℤ) : Type 0 where
  pub count : length b ≡ 16
  pub good : (k : ℕ) → k < 16 → sample depth (item b k) ≡ true

pub record Shows (p : List ℤ) (w : Where) (b : List ℤ) : Type 0 where
  pub shown : (k : ℕ) → k < 16 → item p (spot w k) ≡ item b k

abbrev pub difference : List ℤ → Where → List ℤ → List ℤ
difference p w b = tab 16 (λ k. item b k -ℤ item p (spot w k))

-- a step there, with the levels l, and the one that leads to b
abbrev pub step_with : Where → List ℤ → Step
step_with w l = record { at = w; levels = l }

abbrev pub step_to : List ℤ → Where → List ℤ → Step
step_to p w b = step_with w (fwht (difference p w b))
