-- `kernels::dct::flat16` meets its contract: the DCT of the even inputs and the products of the odd ones, joined. Assumes nothing.
use mathlib.Core.Path.{sym, ap, ◌∙◌}
use lib.ListN.{length}
use Rattle.tables.specs.Half.{half16}
use Rattle.rows.proofs.Dots.{as_read, left_by}
use Rattle.kernels.proofs.EvenOdd.{Halved, halving16, odd-rows, even-count, even-inputs, fold_asks, fold-gives}
use Rattle.kernels.proofs.dct.flat16.Goals as goal
use Rattle.kernels.proofs.dct.flat16.Lts as lts
use Rattle.kernels.proofs.dct.flat16.Reads as reads
use Rattle.kernels.proofs.dct.flat16.Tie as tie

abbrev After-evens : Type 0
After-evens = lts.After-evens tie.the-claims reads.Pre reads.Post tie.handed_clauses

-- the inputs taken apart
apart : (c : After-evens) → let o = c.before.before.before.before.before.before.before.before in Halved 8 half16 o.args.c.now o.odds.new.out c.evens.new.c
apart c =
    let o = c.before.before.before.before.before.before.before.before in
    let s = o.before.before.before in
    record { table = halving16; inputs = s.requires; long = c.evens.auto.c ∙ s.requires.0; odds = o.odds.ensures; evens = c.evens.ensures }

pub products-requires : goal.products-requires
products-requires c =
    let o = c.before.before.before.before in
    let s = o.before.before.before in
    (sym (ap length o.odds.ensures), as_read (odd-rows halving16 s.args.c.now o.odds.new.out s.requires.1 o.odds.ensures))

pub slice_bounds-flat8-end-2 : goal.slice_bounds-flat8-end-2
slice_bounds-flat8-end-2 c = sym (even-count (apart c.before.before))

pub flat8-requires : goal.flat8-requires
flat8-requires c = even-inputs (apart c.before.before)

pub fold-requires : goal.fold-requires
fold-requires c =
    let f = c.before.before.before in
    let e = f.before.before.before in
    let a = fold_asks (apart e) f.flat8.ensures (left_by half16 e.before.before.before.before.odds.new.out _ e.products.ensures) in
    record { out_len = a.0; join_room = a.1 }

pub returns : goal.returns
returns c =
    let f = c.before.before.before.before.before in
    let e = f.before.before.before in
    fold-gives (apart e) f.flat8.ensures (left_by half16 e.before.before.before.before.odds.new.out _ e.products.ensures) c.fold.ensures
