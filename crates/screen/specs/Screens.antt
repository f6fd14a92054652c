-- A screen, and what always holds of it. Definitions only.
--     Sound s                 a width within the stride and up to 256, a stride up to 320, a height up to 256, depth up to 12
--     There s                 the same, and a stride above 0
--     Blank s room            a new screen: the middle grey, and the marks in the pad
--     possible_of              the sides and the depth that a screen may have
use Rattle.std.specs.Prelude.{◌≡◌, Bool, ◌&&◌, List, ℕ, ◌*◌, ◌-◌, ◌^◌, ◌≤◌, ◌<◌, leb, ℤ, pos, take}
use Rattle.whole.specs.Sums.{tab}
use Rattle.screen.specs.declared.Screen.{Screen}
use Rattle.screen.specs.Planes.{fresh_of}

pub record Sound (s : Screen) : Type 0 where
  pub wide : s.width ≤ s.stride
  pub narrow : s.width ≤ 256
  pub long : s.stride ≤ 320
  pub high : s.height ≤ 256
  pub deep : s.depth ≤ 12

abbrev pub There : Screen → Type 0
There s = Sound s × (0 < s.stride)

abbrev pub Blank : Screen → List ℤ → Type 0
Blank s room =
    take (s.stride * s.height) room ≡ tab (s.stride * s.height) (fresh_of s.stride s.width (pos (2 ^ (s.depth - 1))))

abbrev pub possible_of : ℕ → ℕ → ℕ → Bool
possible_of width height depth = (leb 4 width && leb width 256) && ((leb 4 height && leb height 256) && (leb 8 depth && leb depth 12))
