-- How large the results are: four numbers of size B give numbers of size 2B, so that sixteen give 4B. Assumes nothing.
--     fore-size, swap-size, back-size four numbers
--     wider, turned, eached           a block with a larger bound, turned, and row by row
--     fore44-size, back44-size        four rows of four
--     of-list, fwht-size, iwht-size   lists
-- Twice a result is plus or minus each of the four numbers, and what halving left over, which is 0 or 1.
use mathlib.Core.Path.{refl, ◌∙◌}
use mathlib.Core.List.{List, [], ◌∷◌}
use Prim.Native.Nat.{ℕ, ◌+◌, ◌≤◌}
use native.Mathlib.Nat.{le_trans}
use native.Mathlib.Omega.{arith}
use lib.Dec.{T}
use lib.IntN.{ℤ, pos, nat_abs}
use lib.ListN.{get_or}
use Rattle.whole.specs.Numbers.{floor_div}
use Rattle.whole.specs.Sums.{Within}
use Rattle.whole.proofs.Bounds.{Small, nil, cons, small_at}
use Rattle.whole.proofs.Halves.{left_over, halved}
use Rattle.whole.proofs.Linear.{lin, agree}
use Rattle.whole.proofs.Machine.{Mx, var, ◌⊕◌, ◌⊖◌, val}
use Rattle.whole.proofs.Num.{Num, plus, minus}
use Rattle.whole.proofs.Sums.{within_all}
use Rattle.wht.specs.declared.blocks.Quad.{Quad}
use Rattle.wht.specs.declared.blocks.Block.{Block}
use Rattle.wht.specs.Wht.{fore_sum, fore, swap, back, each, turn, fore44, back44, block, flat, fwht, iwht}
use Rattle.wht.specs.Bounds.{Sized, Sizes}
use Rattle.wht.proofs.Butterfly.{sum, out0, out1, out2, out3}

sized : (z : ℤ) {B : ℕ} → nat_abs z ≤ B → Num z z B
sized z h = record { is = refl; size = h }

-- what halving left over, over the four numbers and the half
abbrev rest : Mx
rest = sum ⊖ (var 4 ⊕ var 4)

module _ {B : ℕ} {o : Quad} (s : Sized B o) where
  abbrev xs : List ℤ
  xs = o.0 ∷ o.1 ∷ o.2 ∷ o.3 ∷ floor_div (fore_sum o) 2 ∷ []

  -- a result x whose double is y
  bounded : (x y : Mx) → T (agree (x ⊕ x) y) → {z : ℤ} → Num (val y xs) z (B + B + B + B + 1) → nat_abs (val x xs) ≤ B + B
  bounded x y t n = halved (B + B) (val x xs) (lin (x ⊕ x) y xs t ∙ n.is) (omega (arith, n.size))

  pub fore-size : Sized (B + B) (fore o)
  unfolding fore
  fore-size =
      let a = sized o.0 s.s0 in
      let b = sized o.1 s.s1 in
      let c = sized o.2 s.s2 in
      let d = sized o.3 s.s3 in
      let w = sized (val rest xs) (left_over (fore_sum o)) in
      record {
        s0 = bounded (out0 (var 4)) (var 0 ⊕ var 1 ⊕ var 2 ⊕ var 3 ⊕ rest) tt (plus (plus (plus (plus a b) c) d) w);
        s1 = bounded (out1 (var 4)) (var 0 ⊕ var 1 ⊖ var 2 ⊖ var 3 ⊖ rest) tt (minus (minus (minus (plus a b) c) d) w);
        s2 = bounded (out2 (var 4)) (var 0 ⊖ var 1 ⊖ var 2 ⊕ var 3 ⊖ rest) tt (minus (plus (minus (minus a b) c) d) w);
        s3 = bounded (out3 (var 4)) (var 0 ⊖ var 1 ⊕ var 2 ⊖ var 3 ⊖ rest) tt (minus (minus (plus (minus a b) c) d) w);
      }

pub swap-size : {B : ℕ} {o : Quad} → Sized B o → Sized B (swap o)
swap-size s = record { s0 = s.s0; s1 = s.s1; s2 = s.s3; s3 = s.s2 }

pub back-size : {B : ℕ} {o : Quad} → Sized B o → Sized (B + B) (back o)
back-size s = swap-size (fore-size (swap-size s))

module _ {B : ℕ} {m : Block} (s : Sizes B m) where
  pub wider : {C : ℕ} → B ≤ C → Sizes C m
  wider {C} h = record { r0 = row s.r0; r1 = row s.r1; r2 = row s.r2; r3 = row s.r3 }
    where
      row : {o : Quad} → Sized B o → Sized C o
      row t = record { s0 = le_trans t.s0 h; s1 = le_trans t.s1 h; s2 = le_trans t.s2 h; s3 = le_trans t.s3 h }

  pub turned : Sizes B (turn m)
  turned =
      record {
        r0 = record { s0 = s.r0.s0; s1 = s.r1.s0; s2 = s.r2.s0; s3 = s.r3.s0 };
        r1 = record { s0 = s.r0.s1; s1 = s.r1.s1; s2 = s.r2.s1; s3 = s.r3.s1 };
        r2 = record { s0 = s.r0.s2; s1 = s.r1.s2; s2 = s.r2.s2; s3 = s.r3.s2 };
        r3 = record { s0 = s.r0.s3; s1 = s.r1.s3; s2 = s.r2.s3; s3 = s.r3.s3 };
      }

  pub eached : {C : ℕ} (f : Quad → Quad) → ((o : Quad) → Sized B o → Sized C (f o)) → Sizes C (each f m)
  eached f h = record { r0 = h m.0 s.r0; r1 = h m.1 s.r1; r2 = h m.2 s.r2; r3 = h m.3 s.r3 }

pub fore44-size : {B : ℕ} {m : Block} → Sizes B m → Sizes (B + B + (B + B)) (fore44 m)
unfolding fore44
fore44-size s = eached (turned (eached (turned s) fore (λ o t. fore-size t))) fore (λ o t. fore-size t)

pub back44-size : {B : ℕ} {m : Block} → Sizes B m → Sizes (B + B + (B + B)) (back44 m)
unfolding back44
back44-size s = turned (eached (turned (eached s back (λ o t. back-size t))) back (λ o t. back-size t))

-- ---- lists
pub of-list : {B : ℕ} (l : List ℤ) → Within B l → Sizes B (block l)
of-list {B} l h =
    let at = within_all B l h in
    record {
      r0 = record { s0 = at 0; s1 = at 1; s2 = at 2; s3 = at 3 };
      r1 = record { s0 = at 4; s1 = at 5; s2 = at 6; s3 = at 7 };
      r2 = record { s0 = at 8; s1 = at 9; s2 = at 10; s3 = at 11 };
      r3 = record { s0 = at 12; s1 = at 13; s2 = at 14; s3 = at 15 };
    }

to-list : {B : ℕ} {m : Block} → Sizes B m → (k : ℕ) → nat_abs (get_or (flat m) k (pos 0)) ≤ B
to-list {B} s = small_at (row s.r0 (row s.r1 (row s.r2 (row s.r3 nil))))
  where
    row : {o : Quad} {l : List ℤ} → Sized B o → Small B l → Small B (o.0 ∷ o.1 ∷ o.2 ∷ o.3 ∷ l)
    row t r = cons t.s0 (cons t.s1 (cons t.s2 (cons t.s3 r)))

module _ {B : ℕ} (l : List ℤ) (h : Within B l) (k : ℕ) where
  pub fwht-size : nat_abs (get_or (fwht l) k (pos 0)) ≤ B + B + (B + B)
  unfolding fwht
  fwht-size = to-list (fore44-size (of-list l h)) k

  pub iwht-size : nat_abs (get_or (iwht l) k (pos 0)) ≤ B + B + (B + B)
  unfolding iwht
  iwht-size = to-list (back44-size (of-list l h)) k
