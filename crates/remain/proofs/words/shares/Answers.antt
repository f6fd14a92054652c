-- `remain::words::shares` meets its contract: the two tests. Assumes nothing.
use mathlib.Core.Path.{sym, ◌∙◌}
use Rattle.remain.proofs.words.shares.Goals as goal

pub returns-then-near : goal.returns-then-near
returns-then-near c = rw (sym c.near.ensures ∙ c.if-near.true) c.near-then-near.ensures

pub returns-else-near : goal.returns-else-near
returns-else-near c = rw (sym c.near.ensures ∙ c.if-near.false) c.if-near.false
