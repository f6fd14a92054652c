-- `folding_code::fold::put_numbered` meets its contract: the four numbers, read and stored. Assumes nothing.
use mathlib.Core.Path.{◌∙◌}
use Prim.Native.Nat.{◌+◌}
use Rattle.remain.specs.Remaining.{mark, word, put_mark}
use Rattle.folding_code.proofs.fold.put_numbered.Goals as goal

pub returns : goal.returns
returns c =
    c.put_mark.ensures ∙ (λ t. put_mark c.args.m (mark (c.args.m + 1) (word c.args.s.now c.args.h 1) (c.word-row.ensures t) (c.word-column.ensures t)) c.args.s.now)
