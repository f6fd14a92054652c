-- `text::same` meets its contract: the slices' own test. Assumes nothing.
use mathlib.Core.Path.{ap, ◌∙◌}
use Rattle.words.specs.Words.{alike}
use Rattle.words.proofs.Alike.{alike-is}
use Rattle.words.proofs.Runs.{part}
use Rattle.words.proofs.text.same.Goals as goal

pub returns : goal.returns
returns c = c.eq.ensures ∙ alike-is _ c.args.word.now ∙ ap (λ l. alike l c.args.word.now) (part c.args.from c.args.to c.args.line.now c.requires.0)
