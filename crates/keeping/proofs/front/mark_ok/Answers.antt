-- `keeping::front::mark_ok` meets its contract: depth, place and number, one after the other. Assumes nothing.
use mathlib.Core.Path.{◌≡◌, sym, ap, ◌∙◌}
use borrow.Author.Tests.{not-true, not-false}
use lib.Dec.{ltb}
use Rattle.remain.specs.Remaining.{number_at, word}
use Rattle.keeping.specs.Range.{Area, area_of, within, stands}
use Rattle.keeping.proofs.front.mark_ok.Goals as goal
use Rattle.keeping.proofs.front.mark_ok.Lts as lts
use Rattle.keeping.proofs.front.mark_ok.Reads as reads
use Rattle.keeping.proofs.front.mark_ok.Tie as tie

abbrev Start : Type 0
Start = lts.Start tie.the-claims reads.Pre reads.Post

abbrev After-between : Type 0
After-between = lts.After-between tie.the-claims reads.Pre reads.Post

abbrev After-stands : Type 0
After-stands = lts.After-stands tie.the-claims reads.Pre reads.Post

abbrev A : Start → Area
A s = area_of s.args.a

deep_is : (c : After-between) → c.between.result ≡ within 8 12 (word c.args.s.now c.args.i 1)
deep_is c = c.between.ensures ∙ ap (within 8 12) c.word.ensures

stand-is : (c : After-stands) → c.stands.result ≡ stands (A c.before.before.before.before.before.before.before) (word c.args.s.now c.args.i 2) (word c.args.s.now c.args.i 3)
stand-is c = c.stands.ensures ∙ (λ k. stands (A c.before.before.before.before.before.before.before) (c.word-2.ensures k) (c.word-3.ensures k))

pub returns-then-not-between : goal.returns-then-not-between
returns-then-not-between c = rw (sym (deep_is c.before.before) ∙ not-true _ c.if-not-between.true-raw)

pub returns-then-not-stands : goal.returns-then-not-stands
returns-then-not-stands c = rw (sym (deep_is c.before.before.before.before.before.before) ∙ not-false _ c.if-not-between.false-raw, sym (stand-is c.before.before) ∙ not-true _ c.if-not-stands.true-raw)

pub returns : goal.returns
returns c = rw (sym (deep_is c.before.before.before.before.before.before.before.before) ∙ not-false _ c.if-not-between.false-raw, sym (stand-is c.before.before.before.before) ∙ not-false _ c.if-not-stands.false-raw) (ap (λ x. ltb x (number_at c.args.s.now c.args.i)) c.number_before.ensures)
