-- The 4x4 Walsh-Hadamard transform and its inverse, over all whole numbers. Definitions only; from document 01, "Chroma pairs and WHT".
--     fore, back          four numbers, forward and inverse
--     fore44, back44      four rows of four: columns first, then rows; the inverse undoes rows, then columns
--     fwht, iwht          sixteen numbers, row by row
-- proofs/Inverse shows that each undoes the other, so that no other inverse could stand here.
use Rattle.std.specs.Prelude.{List, [], ◌∷◌, ℕ, ◌+◌, ℤ, pos, ◌+ℤ◌, ◌-ℤ◌, get_or}
use Rattle.whole.specs.Numbers.{floor_div}
use Rattle.wht.specs.declared.blocks.Quad.{Quad}
use Rattle.wht.specs.declared.blocks.Block.{Block}

-- with e = floor ((o0 + o1 + o2 - o3) / 2) the results o0 + o1 + o2 - e, e - o2, o3 - o2 + e - o1, e - o1
abbrev pub fore_sum : Quad → ℤ
fore_sum o = o.0 +ℤ o.1 +ℤ o.2 -ℤ o.3

abbrev pub fore_with : ℤ → Quad → Quad
fore_with e o = (o.0 +ℤ o.1 +ℤ o.2 -ℤ e, e -ℤ o.2, o.3 -ℤ o.2 +ℤ e -ℤ o.1, e -ℤ o.1)

unfoldable pub fore : Quad → Quad
fore o = fore_with (floor_div (fore_sum o) 2) o

-- the inverse is the forward one, with the last two numbers exchanged before and after it
abbrev pub swap : Quad → Quad
swap o = (o.0, o.1, o.3, o.2)

abbrev pub back : Quad → Quad
back o = swap (fore (swap o))

-- the same to each row; rows and columns exchanged
abbrev pub each : (Quad → Quad) → Block → Block
each f m = (f m.0, f m.1, f m.2, f m.3)

abbrev pub turn : Block → Block
turn m = (
  (m.0.0, m.1.0, m.2.0, m.3.0),
  (m.0.1, m.1.1, m.2.1, m.3.1),
  (m.0.2, m.1.2, m.2.2, m.3.2),
  (m.0.3, m.1.3, m.2.3, m.3.3),
)

unfoldable pub fore44 : Block → Block
fore44 m = each fore (turn (each fore (turn m)))

unfoldable pub back44 : Block → Block
back44 m = turn (each back (turn (each back m)))

-- sixteen numbers row by row
abbrev pub row_from : List ℤ → ℕ → Quad
row_from l i = (get_or l i (pos 0), get_or l (i + 1) (pos 0), get_or l (i + 2) (pos 0), get_or l (i + 3) (pos 0))

abbrev pub block : List ℤ → Block
block l = (row_from l 0, row_from l 4, row_from l 8, row_from l 12)

abbrev pub flat : Block → List ℤ
flat m =
    m.0.0 ∷ m.0.1 ∷ m.0.2 ∷ m.0.3 ∷ m.1.0 ∷ m.1.1 ∷ m.1.2 ∷ m.1.3
    ∷ m.2.0 ∷ m.2.1 ∷ m.2.2 ∷ m.2.3 ∷ m.3.0 ∷ m.3.1 ∷ m.3.2 ∷ m.3.3 ∷ []

unfoldable pub fwht : List ℤ → List ℤ
fwht l = flat (fore44 (block l))

unfoldable pub iwht : List ℤ → List ℤ
iwht l = flat (back44 (block l))
