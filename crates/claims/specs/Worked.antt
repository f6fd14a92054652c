-- P1 to P12 of document 01, "Sums on both sides of an edge", as one table. Definitions only; proofs/Worked shows that the definitions yield its results.
--     call_of       the strict add call at depth 8 on a plane of 100s that is as large as the block, with one coefficient that isn't 0
--     Case         a call and the slices that it is to leave: of pixels, of chroma pairs, of the WHT
--     outcome      the call's answer, and the slices that it leaves
--     wanted       the slices that the table has
--     worked       the table
use Rattle.std.specs.Prelude.{cond, List, [], ◌∷◌, ◌++◌, ℕ, ◌*◌, eqb, ℤ, pos, negsuc, replicate}
use Rattle.whole.specs.Sums.{tab}
use Rattle.answers.specs.declared.Answer.{Answer}
use Rattle.tables.specs.Sizes.{cut}
use Rattle.chroma.specs.Chroma.{cctx_of}
use Rattle.verdicts.specs.Verdicts.{w_of, h_of}
use Rattle.pixels.specs.Calls.{strict, add_of}
use Rattle.wht.specs.Calls.{fwht_of}

-- n times 100
abbrev rest : ℕ → List ℤ
rest n = replicate n (pos 100)

-- n coefficients, all 0 but number k, which is v
abbrev only : ℕ → ℕ → ℤ → List ℤ
only n k v = tab n (λ i. cond (eqb i k) v (pos 0))

abbrev pub call_of : ℕ → ℕ → ℕ → ℤ → Answer × List ℤ
call_of tx txtp k v = add_of strict (rest (h_of tx * w_of tx)) (w_of tx) (only (cut (w_of tx) * cut (h_of tx)) k v) txtp tx 8

-- pixels: a size number, a type number, the one coefficient that isn't 0 by its number and its value; the pixels that it makes of a prediction of 100 at depth 8
-- chroma: u, v, sine, cosine; u and v as they are left, at depth 8
-- wht: the residuals; their levels
pub data Case : Type 0 where
  pixels : ℕ → ℕ → ℕ → ℤ → List ℤ → Case
  chroma : List ℤ → List ℤ → ℤ → ℤ → List ℤ → List ℤ → Case
  wht : List ℤ → List ℤ → Case

abbrev pub outcome : Case → Answer × List (List ℤ)
outcome (pixels tx txtp k v p) = let r = call_of tx txtp k v in (r.0, r.1 ∷ [])
outcome (chroma u v s c u' v') = let r = cctx_of u v s c 8 in (r.0, r.1.0 ∷ r.1.1 ∷ [])
outcome (wht resid level) = let r = fwht_of resid (replicate 16 (pos 0)) in (r.0, r.1 ∷ [])

abbrev pub wanted : Case → List (List ℤ)
wanted (pixels tx txtp k v p) = p ∷ []
wanted (chroma u v s c u' v') = u' ∷ v' ∷ []
wanted (wht resid level) = level ∷ []

-- 0; -1
abbrev o : ℤ
o = pos 0

abbrev m : ℤ
m = negsuc 0

abbrev pub worked : List Case
worked =
    pixels 0 0 0 (pos 15) (replicate 16 (pos 101))
    ∷ pixels 0 0 0 (pos 14) (rest 16)
    ∷ pixels 0 0 0 (negsuc 17) (replicate 16 (pos 99))
    ∷ pixels 0 0 0 (negsuc 16) (rest 16)
    ∷ pixels 19 0 0 (pos 256) (replicate 128 (pos 103))
    ∷ pixels 0 34 0 (pos 128) (pos 102 ∷ pos 106 ∷ pos 109 ∷ pos 111 ∷ rest 12)
    ∷ pixels 0 35 4 (pos 128) (pos 109 ∷ pos 98 ∷ pos 89 ∷ pos 94 ∷ rest 12)
    ∷ pixels 5 33 1 (pos 256) (rest 4 ++ (pos 132 ∷ rest 27))
    ∷ chroma (pos 128 ∷ negsuc 127 ∷ pos 127 ∷ negsuc 126 ∷ []) (replicate 4 o) (pos 0) (pos 1) (pos 1 ∷ m ∷ o ∷ o ∷ []) (replicate 4 o)
    ∷ wht (pos 1 ∷ pos 2 ∷ pos 3 ∷ pos 4 ∷ replicate 12 o) (pos 3 ∷ m ∷ o ∷ o ∷ pos 2 ∷ m ∷ o ∷ m ∷ pos 2 ∷ m ∷ o ∷ m ∷ pos 2 ∷ m ∷ o ∷ m ∷ [])
    ∷ wht (m ∷ replicate 15 o) (o ∷ o ∷ o ∷ o ∷ o ∷ m ∷ m ∷ m ∷ o ∷ m ∷ m ∷ m ∷ o ∷ m ∷ m ∷ m ∷ [])
    ∷ wht (replicate 16 (pos 1)) (pos 4 ∷ replicate 15 o)
    ∷ []
