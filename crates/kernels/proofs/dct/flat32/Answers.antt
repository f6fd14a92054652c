-- `kernels::dct::flat32` meets its contract: the DCT of the even inputs and the products of the odd ones, joined. Assumes nothing.
use mathlib.Core.Path.{sym, ap, ◌∙◌}
use lib.ListN.{length}
use Rattle.tables.specs.Half.{half32}
use Rattle.kernels.proofs.EvenOdd.{Halved, halving32, odd-rows, even-count, even-inputs, fold_asks, fold-gives}
use Rattle.kernels.proofs.dct.flat32.Goals as goal
use Rattle.kernels.proofs.dct.flat32.Lts as lts
use Rattle.kernels.proofs.dct.flat32.Reads as reads
use Rattle.kernels.proofs.dct.flat32.Tie as tie

abbrev After-evens : Type 0
After-evens = lts.After-evens tie.the-claims reads.Pre reads.Post tie.handed_clauses

-- the inputs taken apart
apart : (c : After-evens) → let o = c.before.before.before.before.before.before.before in Halved 16 half32 o.args.c.now o.odds.new.out c.evens.new.c
apart c =
    let o = c.before.before.before.before.before.before.before in
    let s = o.before.before.before in
    record { table = halving32; inputs = s.requires; long = c.evens.auto.c ∙ s.requires.0; odds = o.odds.ensures; evens = c.evens.ensures }

pub rows16-requires : goal.rows16-requires
rows16-requires c =
    let o = c.before.before.before in
    let s = o.before.before.before in
    (ap length o.odds.ensures, odd-rows halving32 s.args.c.now o.odds.new.out s.requires.1 o.odds.ensures)

pub slice_bounds-flat16-end-2 : goal.slice_bounds-flat16-end-2
slice_bounds-flat16-end-2 c = sym (even-count (apart c.before.before))

pub flat16-requires : goal.flat16-requires
flat16-requires c = even-inputs (apart c.before.before)

pub fold-requires : goal.fold-requires
fold-requires c =
    let f = c.before.before.before in
    let e = f.before.before.before in
    let a = fold_asks (apart e) f.flat16.ensures e.rows16.ensures in
    record { out_len = a.0; join_room = a.1 }

pub returns : goal.returns
returns c =
    let f = c.before.before.before.before.before in
    let e = f.before.before.before in
    fold-gives (apart e) f.flat16.ensures e.rows16.ensures c.fold.ensures
