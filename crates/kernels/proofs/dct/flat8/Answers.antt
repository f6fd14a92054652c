-- `kernels::dct::flat8` meets its contract: the DCT of the even inputs and the products of the odd ones, joined. Assumes nothing.
use mathlib.Core.Path.{sym, ap, ◌∙◌}
use lib.ListN.{length}
use Rattle.tables.specs.Half.{half8}
use Rattle.rows.proofs.Dots.{as_read, left_by}
use Rattle.kernels.proofs.EvenOdd.{Halved, halving8, odd-rows, even-count, even-inputs, fold_asks, fold-gives}
use Rattle.kernels.proofs.dct.flat8.Goals as goal
use Rattle.kernels.proofs.dct.flat8.Lts as lts
use Rattle.kernels.proofs.dct.flat8.Reads as reads
use Rattle.kernels.proofs.dct.flat8.Tie as tie

abbrev After-evens : Type 0
After-evens = lts.After-evens tie.the-claims reads.Pre reads.Post tie.handed_clauses

-- the inputs taken apart
apart : (c : After-evens) → let o = c.before.before.before.before.before.before.before.before in Halved 4 half8 o.args.c.now o.odds.new.out c.evens.new.c
apart c =
    let o = c.before.before.before.before.before.before.before.before in
    let s = o.before.before.before in
    record { table = halving8; inputs = s.requires; long = c.evens.auto.c ∙ s.requires.0; odds = o.odds.ensures; evens = c.evens.ensures }

pub products-requires : goal.products-requires
products-requires c =
    let o = c.before.before.before.before in
    let s = o.before.before.before in
    (sym (ap length o.odds.ensures), as_read (odd-rows halving8 s.args.c.now o.odds.new.out s.requires.1 o.odds.ensures))

pub slice_bounds-four-end-2 : goal.slice_bounds-four-end-2
slice_bounds-four-end-2 c = sym (even-count (apart c.before.before))

pub four-requires : goal.four-requires
four-requires c = even-inputs (apart c.before.before)

pub fold-requires : goal.fold-requires
fold-requires c =
    let f = c.before.before.before in
    let e = f.before.before.before in
    let a = fold_asks (apart e) f.four.ensures (left_by half8 e.before.before.before.before.odds.new.out _ e.products.ensures) in
    record { out_len = a.0; join_room = a.1 }

pub returns : goal.returns
returns c =
    let f = c.before.before.before.before.before in
    let e = f.before.before.before in
    fold-gives (apart e) f.four.ensures (left_by half8 e.before.before.before.before.odds.new.out _ e.products.ensures) c.fold.ensures
