-- `lossless::block::gain` meets its contract: a verdict of Done tells what the sum asks. Assumes nothing.
use mathlib.Core.Path.{sym, ap}
use Rattle.whole.specs.Sums.{item}
use Rattle.answers.specs.declared.Answer.{Answer}
use Rattle.whole.specs.Search.{cell_at}
use Rattle.lossless.specs.Step.{sample}
use Rattle.lossless.proofs.Adding.{sample-size}
use Rattle.lossless.proofs.Blocks.{passes}
use Rattle.lossless.proofs.block.gain.Goals as goal

pub add-requires : goal.add-requires
add-requires c =
    let at = cell_at c.args.start c.args.stride 4 in
    let t = passes (sample c.args.depth) at c.args.plane.now (item c.args.gains.now) (ap (λ (a : Answer). a.number) (sym c.in_ok-judge.ensures)) in
    (record { reach = c.requires.1; small = λ k h. sample-size c.args.depth (item c.args.plane.now (at k)) c.requires.0 (t.present k h); gains = c.requires.2 }, c.requires.3)
