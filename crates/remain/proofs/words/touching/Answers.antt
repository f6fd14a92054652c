-- `remain::words::touching` meets its contract: the test on two words of the list. Assumes nothing.
use mathlib.Core.Path.{ap, ◌∙◌}
use Rattle.remain.specs.Touch.{shares}
use Rattle.remain.specs.Remaining.{word}
use Rattle.remain.proofs.words.touching.Goals as goal

pub returns : goal.returns
returns c =
    let w = c.before in
    let v = w.before in
    c.shares.ensures ∙ ap (λ x. shares v.args.row v.args.column x w.word-2.result) v.word.ensures
    ∙ ap (λ x. shares v.args.row v.args.column (word v.args.s.now v.args.i 2) x) w.word-2.ensures
