-- A table of steps, three numbers each, as `as_chunks` gives it. Assumes nothing.
--     numbers-at     the numbers of step k
use mathlib.Core.Path.{◌≡◌, refl, ap, ◌∙◌}
use mathlib.Core.List.{List, []}
use Prim.Native.Nat.{ℕ, zero, suc, ◌+◌, ◌*◌, ◌<◌}
use native.Mathlib.Omega.{arith}
use lib.Dec.{lit<}
use lib.ListN.{get_or, drop}
use Rattle.std.proofs.lemmas.List.{get_or-take, get_or-drop}
use Rattle.std.specs.Simd.{first_chunks}

chunk-at : (xs : List ℕ) (m k j i : ℕ) → k < m → j < 3 → k * 3 + j ≡ i → get_or (get_or (first_chunks 3 m xs) k []) j 0 ≡ get_or xs i 0
chunk-at xs zero k j i h g e = absurd (omega arith)
chunk-at xs (suc m) zero j i h g e = get_or-take 3 xs j 0 g ∙ ap (λ (n : ℕ). get_or xs n 0) (omega arith)
chunk-at xs (suc m) (suc k) j i h g e =
    chunk-at (drop 3 xs) m k j (k * 3 + j) (omega arith) g refl ∙ get_or-drop 3 xs (k * 3 + j) 0 ∙ ap (λ (n : ℕ). get_or xs n 0) (omega arith)

pub numbers-at : (steps : List (List ℕ)) (xs : List ℕ) (m k : ℕ) → steps ≡ first_chunks 3 m xs → k < m
    → (get_or (get_or steps k []) 0 0 ≡ get_or xs (k * 3) 0) × (get_or (get_or steps k []) 1 0 ≡ get_or xs (k * 3 + 1) 0) × (get_or (get_or steps k []) 2 0 ≡ get_or xs (k * 3 + 2) 0)
numbers-at steps xs m k e h =
    rw e (chunk-at xs m k 0 (k * 3) h (lit< tt) (omega arith), chunk-at xs m k 1 (k * 3 + 1) h (lit< tt) refl, chunk-at xs m k 2 (k * 3 + 2) h (lit< tt) refl)
