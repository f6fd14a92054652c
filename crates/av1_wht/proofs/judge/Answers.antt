-- `av1_wht::judge` meets its contract: each test of the verdict, in its order, is the code's. Assumes nothing.
use mathlib.Core.Path.{sym, ◌∙◌}
use borrow.Author.Tests.{lt-leb, ne_eqb, eq-eqb}
use Rattle.av1.proofs.Tested.{within}
use Rattle.av1_wht.specs.Wht.{wht_verdict}
use Rattle.av1_wht.proofs.judge.Goals as goal

pub returns-then-not-contains : goal.returns-then-not-contains
unfolding wht_verdict
returns-then-not-contains c =
    let r = c.new.ensures in
    let bits = sym (within 16 20 c.args.bits) ∙ sym (rw (r.start, r.end, r.exhausted) at c.contains.ensures.value) in
    rw (bits ∙ c.if-not-contains.true)

pub returns-then-t-ne16 : goal.returns-then-t-ne16
unfolding wht_verdict
returns-then-t-ne16 c =
    let r = c.new.ensures in
    let bits = sym (within 16 20 c.args.bits) ∙ sym (rw (r.start, r.end, r.exhausted) at c.contains.ensures.value) in
    rw (bits ∙ c.if-not-contains.false, ne_eqb _ _ c.if-t-ne16.true)

pub returns-in-Some : goal.returns-in-Some
unfolding wht_verdict
returns-in-Some c =
    let r = c.new.ensures in
    let bits = sym (within 16 20 c.args.bits) ∙ sym (rw (r.start, r.end, r.exhausted) at c.contains.ensures.value) in
    let f = rw (c.of_bits.ensures.lo, c.of_bits.ensures.hi, c.if-t-ne16.false) at c.in-Some.ensures in
    rw (bits ∙ c.if-not-contains.false, eq-eqb _ _ c.if-t-ne16.false, f.0, lt-leb _ _ f.1)

pub returns-in-None : goal.returns-in-None
unfolding wht_verdict
returns-in-None c =
    let r = c.new.ensures in
    let bits = sym (within 16 20 c.args.bits) ∙ sym (rw (r.start, r.end, r.exhausted) at c.contains.ensures.value) in
    let f = rw (c.of_bits.ensures.lo, c.of_bits.ensures.hi, c.if-t-ne16.false) at c.in-None.ensures in
    rw (bits ∙ c.if-not-contains.false, eq-eqb _ _ c.if-t-ne16.false, f)
