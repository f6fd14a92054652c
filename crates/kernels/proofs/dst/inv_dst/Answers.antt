-- `kernels::dst::inv_dst` meets its contract: the numbers that are not live are cleared, the products turned where they must be. Assumes nothing.
use mathlib.Core.Path.{sym, ap, ◌∙◌, subst}
use mathlib.Core.List.{List}
use Prim.Native.Nat.{◌≤◌}
use lib.IntN.{ℤ}
use lib.ListN.{length}
use Rattle.tables.specs.Dense.{dense_by}
use Rattle.rows.specs.Rows.{Rows}
use Rattle.kernels.proofs.ByRows.{turned_rows}
use Rattle.kernels.proofs.dst.inv_dst.Goals as goal

pub rows_of-requires : goal.rows_of-requires
rows_of-requires c =
    let p = c.before.before in
    let s = p.before.before in
    subst (λ (xs : List ℤ). (length xs ≤ 16) × Rows s.args.mat.now xs) (sym p.clear.ensures) s.requires

pub returns : goal.returns
returns c =
    let r = c.before.before.before.before in
    let p = r.before.before.before in
    let s = p.before.before in
    c.turn.ensures ∙ turned_rows s.args.flip s.args.mat.now p.clear.new.c r.rows_of.ensures
    ∙ ap (λ xs. dense_by s.args.flip (length xs) s.args.mat.now xs) p.clear.ensures
