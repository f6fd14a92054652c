-- `text::pass` meets its contract: the run of bytes that pass the test. Assumes nothing.
use Rattle.words.specs.Words.{passed}
use Rattle.words.proofs.Runs.{seek-run}
use Rattle.words.proofs.text.pass.Goals as goal

pub returns-clause-value : goal.returns-clause-value
returns-clause-value c = seek-run (passed c.args.blanks) c.args.line.now c.args.from c.run.result c.requires c.run.ensures.value
