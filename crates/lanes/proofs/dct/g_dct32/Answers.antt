-- `lanes::dct::g_dct32` meets its contract: the rows that the joins make of the halves are the table's columns. Assumes nothing.
use mathlib.Core.Path.{refl}
use mathlib.Core.Logic.{inr}
use native.Mathlib.Omega.{arith}
use Rattle.whole.specs.Lanes.{col}
use Rattle.whole.proofs.Parts.{join-room, join-holds}
use Rattle.tables.specs.Half.{half8, half16, half32}
use Rattle.lanes.specs.Halves.{quarter_row}
use Rattle.lanes.proofs.Odds.{held, odd-of, odd-holds}
use Rattle.lanes.proofs.dct.g_dct32.Goals as goal

pub first_four-requires : goal.first_four-requires
first_four-requires g c = (inr (inr (refl, c.requires.0.0)), omega (arith, c.requires.1), c.requires.0.1)

pub grow-requires : goal.grow-requires
grow-requires g c = record {
  odd_half = (odd-of 4 half8 4 32 c.requires.0.0 tt, omega (arith, c.requires.1, c.first_four.auto.e), c.requires.0.1);
  by_index = λ k. join-room (held (quarter_row 8) (c.first_four.ensures k)) (odd-holds 4 half8 4 (col g.L.Lanes.lane k c.args.c.now)) (c.requires.0.1 k) tt;
}

pub grow-requires-2 : goal.grow-requires-2
grow-requires-2 g c = record {
  odd_half = (odd-of 8 half16 2 32 c.requires.0.0 tt, omega (arith, c.requires.1, c.first_four.auto.e, c.grow.auto.e), c.requires.0.1);
  by_index = λ k. join-room (join-holds (held (quarter_row 8) (c.first_four.ensures k)) (odd-holds 4 half8 4 (col g.L.Lanes.lane k c.args.c.now)) (c.grow.ensures k)) (odd-holds 8 half16 2 (col g.L.Lanes.lane k c.args.c.now)) (c.requires.0.1 k) tt;
}

pub grow-requires-3 : goal.grow-requires-3
grow-requires-3 g c = record {
  odd_half = (odd-of 16 half32 1 32 c.requires.0.0 tt, omega (arith, c.requires.1, c.first_four.auto.e, c.grow.auto.e, c.grow-2.auto.e), c.requires.0.1);
  by_index = λ k. join-room (join-holds (join-holds (held (quarter_row 8) (c.first_four.ensures k)) (odd-holds 4 half8 4 (col g.L.Lanes.lane k c.args.c.now)) (c.grow.ensures k)) (odd-holds 8 half16 2 (col g.L.Lanes.lane k c.args.c.now)) (c.grow-2.ensures k)) (odd-holds 16 half32 1 (col g.L.Lanes.lane k c.args.c.now)) (c.requires.0.1 k) tt;
}

pub returns : goal.returns
returns g c k = (join-holds (join-holds (join-holds (held (quarter_row 8) (c.first_four.ensures k)) (odd-holds 4 half8 4 (col g.L.Lanes.lane k c.args.c.now)) (c.grow.ensures k)) (odd-holds 8 half16 2 (col g.L.Lanes.lane k c.args.c.now)) (c.grow-2.ensures k)) (odd-holds 16 half32 1 (col g.L.Lanes.lane k c.args.c.now)) (c.grow-3.ensures k)).is
