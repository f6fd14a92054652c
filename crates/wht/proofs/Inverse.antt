-- The two transforms undo each other, over all whole numbers. From document 01, "Chroma pairs and WHT". Assumes nothing.
--     back-fore, fore-back          four numbers
--     back-fore44, fore-back44      four rows of four
--     iwht-fwht, fwht-iwht          lists of sixteen
--     fwht-length, iwht-length      both give sixteen
-- The floor term e stands as an atom: with it, each equation of four numbers is linear.
use mathlib.Core.Path.{◌≡◌, refl, sym, ap, ◌∙◌}
use mathlib.Core.List.{List, [], ◌∷◌}
use lib.IntN.{ℤ, pos}
use lib.ListN.{length, get_or}
use Rattle.whole.specs.Numbers.{floor_div}
use Rattle.whole.specs.Sums.{tab}
use Rattle.whole.proofs.Fill.{tab-list}
use Rattle.whole.proofs.Linear.{lin}
use Rattle.whole.proofs.Machine.{var, ◌⊕◌, ◌⊖◌}
use Rattle.wht.specs.declared.blocks.Quad.{Quad}
use Rattle.wht.specs.declared.blocks.Block.{Block}
use Rattle.wht.specs.Wht.{fore_sum, fore_with, fore, swap, back, each, turn, fore44, back44, block, flat, fwht, iwht}
use Rattle.wht.proofs.Butterfly.{sum, out0, out1, out2, out3}

module _ (e : ℤ) (o : Quad) where
  abbrev xs : List ℤ
  xs = o.0 ∷ o.1 ∷ o.2 ∷ o.3 ∷ e ∷ []

  same_sum : fore_sum (swap (fore_with e o)) ≡ fore_sum o
  same_sum = lin (out0 (var 4) ⊕ out1 (var 4) ⊕ out3 (var 4) ⊖ out2 (var 4)) sum xs tt

  undone : swap (fore_with e (swap (fore_with e o))) ≡ o
  undone =
      λ i. (
        lin (out0 (var 4) ⊕ out1 (var 4) ⊕ out3 (var 4) ⊖ var 4) (var 0) xs tt i,
        lin (var 4 ⊖ out3 (var 4)) (var 1) xs tt i,
        lin (var 4 ⊖ out1 (var 4)) (var 2) xs tt i,
        lin (out2 (var 4) ⊖ out3 (var 4) ⊕ var 4 ⊖ out1 (var 4)) (var 3) xs tt i,
      )

pub back-fore : (o : Quad) → back (fore o) ≡ o
unfolding fore
back-fore o =
    let e = floor_div (fore_sum o) 2 in
    ap (λ z. swap (fore_with (floor_div z 2) (swap (fore_with e o)))) (same_sum e o) ∙ undone e o

-- exchanging twice changes nothing
pub fore-back : (o : Quad) → fore (back o) ≡ o
fore-back o = ap swap (back-fore (swap o))

each-each : (f g : Quad → Quad) → ((o : Quad) → f (g o) ≡ o) → (m : Block) → each f (each g m) ≡ m
each-each f g h m = λ i. (h m.0 i, h m.1 i, h m.2 i, h m.3 i)

pub back-fore44 : (m : Block) → back44 (fore44 m) ≡ m
unfolding back44 fore44
back-fore44 m =
    ap (λ x. turn (each back (turn x))) (each-each back fore back-fore (turn (each fore (turn m))))
    ∙ ap turn (each-each back fore back-fore (turn m))

pub fore-back44 : (m : Block) → fore44 (back44 m) ≡ m
unfolding back44 fore44
fore-back44 m =
    ap (λ x. each fore (turn x)) (each-each fore back fore-back (turn (each back m))) ∙ each-each fore back fore-back m

pub flat_block : (l : List ℤ) → length l ≡ 16 → flat (block l) ≡ l
flat_block l h = ap (λ n. tab n (λ k. get_or l k (pos 0))) (sym h) ∙ tab-list (pos 0) l

pub iwht-fwht : (l : List ℤ) → length l ≡ 16 → iwht (fwht l) ≡ l
unfolding iwht fwht
iwht-fwht l h = ap flat (back-fore44 (block l)) ∙ flat_block l h

pub fwht-iwht : (l : List ℤ) → length l ≡ 16 → fwht (iwht l) ≡ l
unfolding iwht fwht
fwht-iwht l h = ap flat (fore-back44 (block l)) ∙ flat_block l h

pub fwht-length : (l : List ℤ) → length (fwht l) ≡ 16
unfolding fwht
fwht-length l = refl

pub iwht-length : (l : List ℤ) → length (iwht l) ≡ 16
unfolding iwht
iwht-length l = refl
