-- `rows::butterfly::join` meets its contract: the products of the rows, joined by `fold`. Assumes nothing.
use mathlib.Core.Path.{◌≡◌, sym, ap, ◌∙◌, subst}
use mathlib.Core.List.{List, ◌++◌}
use Prim.Native.Nat.{ℕ, ◌+◌}
use native.Mathlib.Omega.{arith}
use lib.IntN.{ℤ}
use lib.ListN.{length, take, length-take}
use Rattle.whole.specs.Parts.{joined, JoinRoom}
use Rattle.whole.specs.Sums.{tab, dot_z, row_at}
use Rattle.whole.proofs.Fill.{length-tab}
use Rattle.rows.proofs.Dots.{as_read, left_by}
use Rattle.rows.proofs.Front.{front-is, front-count, front-inside}
use Rattle.rows.proofs.butterfly.join.Goals as goal
use Rattle.rows.proofs.butterfly.join.Lts as lts
use Rattle.rows.proofs.butterfly.join.Reads as reads
use Rattle.rows.proofs.butterfly.join.Tie as tie

abbrev After-products : Type 0
After-products = lts.After-products tie.the-claims reads.Pre reads.Post tie.handed_clauses

module _ (p : After-products) where
  abbrev out : List ℤ
  out = p.args.out.now

  abbrev n : ℕ
  n = length p.args.odd.now

  abbrev row : ℕ → ℤ
  row i = dot_z (row_at n p.args.mat.now i) p.args.odd.now

  products_are : p.products.new.out ≡ tab n row
  products_are = left_by p.args.mat.now p.args.odd.now n p.products.ensures

  sums-are : (q : List ℤ) → take n (p.products.new.out ++ q) ≡ tab n row
  sums-are q = front-is n row products_are q ∙ products_are

pub slice_bounds-products-end : goal.slice_bounds-products-end
slice_bounds-products-end c = simp length-take (omega arith)

pub products-requires : goal.products-requires
products-requires c = let s = c.before in (simp length-take (omega arith), as_read s.requires.odd_len_bound.2)

pub slice_bounds-sums-end-2 : goal.slice_bounds-sums-end-2
slice_bounds-sums-end-2 c = let p = c.before.before in front-inside (n p) (row p) (products_are p) _

pub slice_bounds-fold-end : goal.slice_bounds-fold-end
slice_bounds-fold-end c = let p = c.before.before.before in front-count (n p) (row p) (products_are p) _

pub fold-requires : goal.fold-requires
fold-requires c =
    let p = c.before.before.before in
    let a = subst (λ (l : List ℤ). (length (out p) ≡ length l + length l) × JoinRoom (length l) (out p) l) (sym (sums-are p _)) (p.requires.odd_len_bound.1 ∙ sym (ap (λ m. m + m) (length-tab (n p) (row p))), subst (λ (m : ℕ). JoinRoom m (out p) (tab (n p) (row p))) (sym (length-tab (n p) (row p))) p.requires.join_room) in
    record { out_len = a.0; join_room = a.1 }

pub returns : goal.returns
returns c = let p = c.before.before.before.before.before in c.fold.ensures ∙ ap (λ l. joined (length l) (out p) l) (sums-are p _) ∙ ap (λ m. joined m (out p) (tab (n p) (row p))) (length-tab (n p) (row p))
