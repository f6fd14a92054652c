-- `rows::square::rows` meets its contract: the products of the rows with a copy of the numbers. Assumes nothing.
use mathlib.Core.Path.{◌≡◌, refl, sym, ap, ◌∙◌, subst}
use mathlib.Core.List.{List}
use lib.IntN.{ℤ}
use lib.ListN.{length}
use Rattle.whole.specs.Sums.{dense}
use Rattle.rows.specs.Rows.{Rows}
use Rattle.rows.proofs.Dots.{as_read, left_by}
use Rattle.rows.proofs.Front.{copied, copied-count, copied-inside}
use Rattle.rows.proofs.square.rows.Goals as goal

pub slice_bounds-s-end-2 : goal.slice_bounds-s-end-2
slice_bounds-s-end-2 c = copied-inside c.copy.ensures _

pub slice_bounds-products-end : goal.slice_bounds-products-end
slice_bounds-products-end c = copied-count c.copy.ensures _

pub products-requires : goal.products-requires
products-requires c =
    let q : (length c.args.c.now ≡ length _) × Rows c.args.mat.now _ = subst (λ (l : List ℤ). (length c.args.c.now ≡ length l) × Rows c.args.mat.now l) (sym (copied c.copy.ensures _)) (refl, c.requires.1) in
    (q.0, as_read q.1)

pub returns : goal.returns
returns c = left_by _ _ _ c.products.ensures ∙ ap (λ l. dense (length l) c.args.mat.now l) (copied c.copy.ensures _)
