-- `folding_code::fold::standing` meets its contract: two tests. Assumes nothing.
use mathlib.Core.Path.{sym, ◌∙◌}
use borrow.Author.Tests.{eq-eqb, ne_eqb}
use Rattle.remain.specs.Touch.{shares}
use Rattle.folding_code.proofs.fold.standing.Goals as goal

pub returns-then-owner-j : goal.returns-then-owner-j
returns-then-owner-j c =
    rw (eq-eqb _ _ (sym c.owner.ensures ∙ c.if-owner-j.true))
    (c.shares.ensures ∙ (λ t. shares c.args.row c.args.column (c.word.ensures t) (c.word-then-owner-j.ensures t)))

pub returns-else-owner-j : goal.returns-else-owner-j
returns-else-owner-j c = rw (ne_eqb _ _ (λ q. c.if-owner-j.false (c.owner.ensures ∙ q))) (ne_eqb _ _ c.if-owner-j.false)
