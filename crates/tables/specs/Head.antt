-- The heads of the DCT tables: the first half of their rows 1, 2 and 3, row after row. With four inputs no other row is needed: row 0 is 64
-- everywhere, and in the second half an even row is the first half in reverse, an odd row the same with its sign turned. Definitions only;
-- the rule is proofs/Heads.antt.
--     head8, head16, head32     the heads of the tables of 8, 16 and 32
--     HeadTable h t             t is the head of the table of h + h
--     even_at, odd_at             the sums of output k: of the inputs 0 and 2, and of the inputs 1 and 3
use Rattle.std.specs.Prelude.{◌≡◌, ◌⊎◌, List, [], ◌∷◌, ℕ, ◌+◌, ℤ, pos, neg_ℤ, ◌+ℤ◌, ◌*ℤ◌, get_or}

abbrev neg : ℕ → ℤ
neg k = neg_ℤ (pos k)

abbrev pub head8 : List ℤ
head8 =
    pos 89 ∷ pos 75 ∷ pos 50 ∷ pos 18
    ∷ pos 83 ∷ pos 35 ∷ neg 35 ∷ neg 83
    ∷ pos 75 ∷ neg 18 ∷ neg 89 ∷ neg 50 ∷ []

abbrev pub head16 : List ℤ
head16 =
    pos 90 ∷ pos 87 ∷ pos 80 ∷ pos 70 ∷ pos 57 ∷ pos 43 ∷ pos 26 ∷ pos 9
    ∷ pos 89 ∷ pos 75 ∷ pos 50 ∷ pos 18 ∷ neg 18 ∷ neg 50 ∷ neg 75 ∷ neg 89
    ∷ pos 87 ∷ pos 57 ∷ pos 9 ∷ neg 43 ∷ neg 80 ∷ neg 90 ∷ neg 70 ∷ neg 26 ∷ []

abbrev pub head32 : List ℤ
head32 =
    pos 90 ∷ pos 90 ∷ pos 88 ∷ pos 85 ∷ pos 82 ∷ pos 78 ∷ pos 73 ∷ pos 67 ∷ pos 61 ∷ pos 54 ∷ pos 47 ∷ pos 39 ∷ pos 30 ∷ pos 22 ∷ pos 13 ∷ pos 4
    ∷ pos 90 ∷ pos 87 ∷ pos 80 ∷ pos 70 ∷ pos 57 ∷ pos 43 ∷ pos 26 ∷ pos 9 ∷ neg 9 ∷ neg 26 ∷ neg 43 ∷ neg 57 ∷ neg 70 ∷ neg 80 ∷ neg 87 ∷ neg 90
    ∷ pos 90 ∷ pos 82 ∷ pos 67 ∷ pos 47 ∷ pos 22 ∷ neg 4 ∷ neg 30 ∷ neg 54 ∷ neg 73 ∷ neg 85 ∷ neg 90 ∷ neg 88 ∷ neg 78 ∷ neg 61 ∷ neg 39 ∷ neg 13 ∷ []

abbrev pub HeadTable : ℕ → List ℤ → Type 0
HeadTable h t = ((h ≡ 4) × (t ≡ head8)) ⊎ (((h ≡ 8) × (t ≡ head16)) ⊎ ((h ≡ 16) × (t ≡ head32)))

abbrev pub even_at : ℕ → List ℤ → List ℤ → ℕ → ℤ
even_at h t xs k = get_or xs 0 (pos 0) *ℤ pos 64 +ℤ get_or xs 2 (pos 0) *ℤ get_or t (h + k) (pos 0)

abbrev pub odd_at : ℕ → List ℤ → List ℤ → ℕ → ℤ
odd_at h t xs k = get_or xs 1 (pos 0) *ℤ get_or t k (pos 0) +ℤ get_or xs 3 (pos 0) *ℤ get_or t (h + h + k) (pos 0)
