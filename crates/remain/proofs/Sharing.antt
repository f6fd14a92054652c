-- Blocks that share a sample. Assumes nothing.
--     ltb_iff              tests of two equivalent facts
--     near_up, near_down   the test by a difference
use mathlib.Core.Path.{◌≡◌, refl, sym, ◌∙◌}
use mathlib.Core.Bool.{Bool, true, false, ◌&&◌}
use Prim.Native.Nat.{ℕ, ◌+◌, ◌-◌, ◌≤◌, ◌<◌}
use native.Mathlib.Nat as N
use native.Mathlib.Omega.{arith}
use borrow.Author.Tests.{lt-ltb, ltb-true, ltb-false}
use lib.Dec.{ltb}
use Rattle.remain.specs.Touch.{near}

pub ltb_iff : (a b c d : ℕ) → (a < b → c < d) → (c < d → a < b) → ltb a b ≡ ltb c d
ltb_iff a b c d f g = go (ltb a b) (ltb c d) refl refl
  where
    go : (t u : Bool) → ltb a b ≡ t → ltb c d ≡ u → t ≡ u
    go true true e h = refl
    go true false e h = absurd (N.not-le_of_lt (f (ltb-true a b e)) (ltb-false c d h))
    go false true e h = absurd (N.not-le_of_lt (g (ltb-true c d h)) (ltb-false a b e))
    go false false e h = refl

pub near_up : (a b : ℕ) → a < b → ltb (b - a) 4 ≡ near a b
near_up a b h =
    let l : a < b + 4 = omega arith in
    rw (lt-ltb a (b + 4) l) (ltb_iff (b - a) 4 b (a + 4) (λ q. omega arith) (λ q. omega arith))

pub near_down : (a b : ℕ) → b ≤ a → ltb (a - b) 4 ≡ near a b
near_down a b h =
    let l : b < a + 4 = omega arith in
    ltb_iff (a - b) 4 a (b + 4) (λ q. omega arith) (λ q. omega arith) ∙ sym (and-right-true (ltb a (b + 4)) (lt-ltb b (a + 4) l))
  where
    and-right-true : (x : Bool) {y : Bool} → y ≡ true → (x && y) ≡ x
    and-right-true true e = e
    and-right-true false e = refl
