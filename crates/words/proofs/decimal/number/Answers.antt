-- `decimal::number` meets its contract: the digits of a word stand behind its '-', if it has one. Assumes nothing.
use Rattle.words.proofs.Decimals.{plain, minus_none, minus-some}
use Rattle.words.proofs.decimal.number.Goals as goal

pub overflow_sub-result : goal.overflow_sub-result
overflow_sub-result c = (minus-some c.args.word.now c.requires c.if-word-eq45.true c.in_ok-z.z c.in_ok-z.ensures).0

pub returns-in_err-z : goal.returns-in_err-z
returns-in_err-z c = rw c.from_residual.ensures (minus_none c.args.word.now c.requires c.if-word-eq45.true c.in_err-z.ensures)

pub returns-then-word-eq45 : goal.returns-then-word-eq45
returns-then-word-eq45 c = let h = minus-some c.args.word.now c.requires c.if-word-eq45.true c.in_ok-z.z c.in_ok-z.ensures in (h.1, h.2)

pub returns : goal.returns
returns c = plain c.args.word.now c.digits-2.result c.if-word-eq45.false c.digits-2.ensures
