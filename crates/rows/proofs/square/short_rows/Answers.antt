-- `rows::square::short_rows` meets its contract: the products of the rows with the numbers at 16 bits. Assumes nothing.
use mathlib.Core.Path.{◌≡◌, refl, sym, ap, ◌∙◌, subst}
use mathlib.Core.List.{List}
use lib.IntN.{ℤ}
use lib.ListN.{length}
use Rattle.whole.specs.Sums.{dense}
use Rattle.rows.specs.Rows.{Rows}
use Rattle.rows.proofs.Dots.{as_read, left_by}
use Rattle.rows.proofs.square.short_rows.Goals as goal

pub products-requires : goal.products-requires
products-requires c =
    let q = subst (λ (l : List ℤ). (length c.args.c.now ≡ length l) × Rows c.args.mat.now l) (sym c.shorten.ensures) (refl, c.requires.1) in
    (q.0, as_read q.1)

pub returns : goal.returns
returns c = left_by _ _ _ c.products.ensures ∙ ap (λ l. dense (length l) c.args.mat.now l) c.shorten.ensures
