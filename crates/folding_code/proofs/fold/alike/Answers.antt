-- `folding_code::fold::alike` meets its contract: three tests. Assumes nothing.
use mathlib.Core.Path.{sym, ◌∙◌}
use borrow.Author.Tests.{eq-eqb, ne_eqb}
use lib.Dec.{eqb}
use Rattle.folding_code.proofs.fold.alike.Goals as goal

pub returns-then-word-2 : goal.returns-then-word-2
returns-then-word-2 c =
    rw (
      eq-eqb _ _ (sym c.word.ensures ∙ c.if-word.true ∙ c.word-2.ensures),
      eq-eqb _ _ (sym c.word-then-word.ensures ∙ c.if-word-2.true ∙ c.word-then-word-2.ensures),
    )
    (λ t. eqb (c.word-then-word-2-2.ensures t) (c.word-then-word-2-3.ensures t))

pub returns-else-word-2 : goal.returns-else-word-2
returns-else-word-2 c =
    rw (
      eq-eqb _ _ (sym c.word.ensures ∙ c.if-word.true ∙ c.word-2.ensures),
      ne_eqb _ _ (λ q. c.if-word-2.false (c.word-then-word.ensures ∙ q ∙ sym c.word-then-word-2.ensures)),
    )
    (ne_eqb _ _ c.if-word-2.false)

pub returns-else-word : goal.returns-else-word
returns-else-word c = rw (ne_eqb _ _ (λ q. c.if-word.false (c.word.ensures ∙ q ∙ sym c.word-2.ensures))) (ne_eqb _ _ c.if-word.false)
