-- `lossless::block::judge` meets its contract: the search for a sample that would leave needs that all are in range. Assumes nothing.
use mathlib.Core.Path.{sym}
use native.Mathlib.Nat.{le_of_eq}
use Rattle.whole.specs.Sums.{item}
use Rattle.whole.specs.Search.{cell_at}
use Rattle.whole.proofs.Num.{back}
use Rattle.whole.proofs.Search.{seek-passed}
use Rattle.lossless.specs.Gains.{present_ok}
use Rattle.lossless.specs.Step.{sample}
use Rattle.lossless.proofs.Adding.{sample-size}
use Rattle.lossless.proofs.block.judge.Goals as goal

pub first_leaving-requires : goal.first_leaving-requires
first_leaving-requires c =
    let t = present_ok (sample c.args.depth) (cell_at c.args.start c.args.stride 4) c.args.plane.now in
    record {
      reach = c.requires.1;
      small = λ k h.
          sample-size c.args.depth (item c.args.plane.now (cell_at c.args.start c.args.stride 4 k)) c.requires.0
          (seek-passed t 16 (le_of_eq (sym (rw (back c.high_end-hi.type_inv, c.high_end-hi.ensures) at c.in_default.ensures))) k h);
      gains = c.requires.2;
    }
