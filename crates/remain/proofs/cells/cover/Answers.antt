-- `remain::cells::cover` meets its contract: it is one call of `mend`. Assumes nothing.
use mathlib.Core.Path.{◌∙◌}
use Prim.Native.Nat.{◌+◌}
use Rattle.remain.specs.Remaining.{marks}
use Rattle.remain.specs.Touch.{across, mended}
use Rattle.remain.proofs.cells.cover.Goals as goal

pub returns : goal.returns
returns c =
    let s = c.before.before.before.before.before.before.before.before in
    c.mend.ensures
    ∙ (λ k. mended (across s.args.width) (marks s.args.s.now (s.args.i + 1)) (c.word-row.ensures k) (c.word-column.ensures k) s.args.index.now)
