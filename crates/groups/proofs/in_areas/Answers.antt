-- `groups::in_areas` meets its contract: the live numbers of the lines are gathered, put through the kernel, and put back. Assumes nothing.
use native.Mathlib.Omega.{arith}
use Rattle.whole.specs.Lanes.{spot}
use Rattle.groups.proofs.Together.{places-less, through-asks, through-gives}
use Rattle.groups.proofs.in_areas.Goals as goal

pub gather-requires : goal.gather-requires
gather-requires g c = (omega (arith, c.requires.code_value.2, c.requires.code_value.3), places-less c.requires.code_value.3 c.requires.code_value.4, c.requires.code_value.5, c.requires.code_value.6)

pub lane_tx1d_into-requires : goal.lane_tx1d_into-requires
lane_tx1d_into-requires g c = record {
  room = (omega (arith, c.requires.code_value.1, c.requires.code_value.2, c.gather.auto.ls), omega (arith, c.requires.code_value.1, c.requires.code_value.2));
  code_value = c.requires.code_value.0;
  live = through-asks g.L.Lanes.lane c.args.lines (spot c.args.base c.args.p c.args.s) c.args.work.now c.args.n c.args.m c.args.live c.requires.code_value.1 c.requires.code_value.3 c.gather.new.ls (omega (arith, c.requires.code_value.2, c.gather.auto.ls)) c.gather.ensures c.requires.by_index;
}

pub scatter-requires : goal.scatter-requires
scatter-requires g c = (omega (arith, c.requires.code_value.2, c.lane_tx1d_into.auto.out), c.requires.code_value.4, c.requires.code_value.5, c.requires.code_value.6)

pub returns : goal.returns
returns g c =
    record {
      by_index_2 = through-gives g.L.Lanes.lane c.args.lines (spot c.args.base c.args.p c.args.s) c.args.work.now c.args.n c.args.m c.args.live c.requires.code_value.1 c.requires.code_value.3 c.gather.new.ls (omega (arith, c.requires.code_value.2, c.gather.auto.ls)) c.gather.ensures c.args.code
          c.lane_tx1d_into.new.out c.lane_tx1d_into.ensures c.scatter.new.work c.scatter.ensures.by_index;
      by_index_3 = c.scatter.ensures.by_index_2;
    }
