-- `history::calls::drop_step` meets its contract: the step is taken out, and its cells mended from the list without it. Assumes nothing.
use mathlib.Core.Path.{ap, ◌∙◌}
use Prim.Native.Nat.{◌-◌}
use Rattle.remain.specs.Remaining.{marks}
use Rattle.remain.specs.Touch.{across, mended}
use Rattle.remain.specs.Without.{levels_without}
use Rattle.history.proofs.calls.drop_step.Goals as goal

pub returns : goal.returns
returns c =
    let n = c.word-n.ensures in
    let e = c.remove.ensures in (
      e.0,
      e.1 ∙ ap (λ m. levels_without c.args.i m c.args.l.now) n,
      c.mend.ensures
          ∙ (λ i. mended (across c.args.width) (marks (e.0 i) (n i - 1)) (c.word-row.ensures i) (c.word-column.ensures i) c.args.index.now),
    )
