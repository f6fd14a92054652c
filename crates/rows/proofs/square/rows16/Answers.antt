-- `rows::square::rows16` meets its contract: the test says that 16 bits hold the numbers. Assumes nothing.
use mathlib.Core.Path.{sym, ◌∙◌}
use Rattle.rows.proofs.Shorts.{none_long}
use Rattle.rows.proofs.square.rows16.Goals as goal

pub short_rows-requires : goal.short_rows-requires
short_rows-requires c = (c.requires.0, c.requires.1, none_long c.args.c.now (sym c.long_ones.ensures ∙ c.if-long_ones-eq0.true))
