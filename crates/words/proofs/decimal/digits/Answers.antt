-- `decimal::digits` meets its contract. The loop keeps one fact: the size of all bytes is that of those left behind the value v. Assumes nothing.
use mathlib.Core.Path.{◌≡◌, sym, ◌∙◌}
use native.Mathlib.Omega.{arith}
use mathlib.Core.Bool.{true≢false}
use borrow.Author.Tests.{eq-eqb, eqb-true}
use lib.ListN.{length}
use Rattle.words.proofs.Decimals.{digit-is, size_none, size-start, size_step, size-other, size-large, size-ends}
use Rattle.words.proofs.decimal.digits.Goals as goal
use Rattle.words.proofs.decimal.digits.Goals.{then-large-via-then-large, then-large-via-else-large+then-not-digit}

pub returns-then-is_empty : goal.returns-then-is_empty
returns-then-is_empty c = size_none c.args.word.now (eqb-true _ _ (sym c.is_empty.ensures ∙ c.if-is_empty.true))

pub loop-b-init : goal.loop-b-init
loop-b-init c =
    let n : length c.args.word.now ≡ 0 → ⊥ = λ e. true≢false (sym (eq-eqb _ 0 e) ∙ sym c.is_empty.ensures ∙ c.if-is_empty.false) in
    size-start c.args.word.now (omega arith)

pub returns-then-large : goal.returns-then-large
returns-then-large c =
    elim c.then-large.branch [
      | then-large-via-then-large w ↦ c.loop-b.invariant ∙ size-large c.args.word.now _ _ c.loop-b-test.true w.if-large.true
      | then-large-via-else-large+then-not-digit w ↦ c.loop-b.invariant ∙ size-other c.args.word.now _ _ c.loop-b-test.true (sym (digit-is _) ∙ sym c.is_ascii_digit-digit.ensures.value ∙ w.if-not-digit.true)
    ]

pub loop-b-preserved : goal.loop-b-preserved
loop-b-preserved c = c.loop-b.invariant ∙ size_step c.args.word.now _ _ c.loop-b-test.true (sym (digit-is _) ∙ sym c.is_ascii_digit-digit.ensures.value ∙ c.if-not-digit.false)

pub returns : goal.returns
returns c = rw c.ok.ensures.value (size-ends c.args.word.now _ _ c.loop-b-test.false c.try_from.result c.loop-b.invariant c.try_from.ensures)
