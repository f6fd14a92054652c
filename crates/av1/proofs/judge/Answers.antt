-- `av1::judge` meets its contract: each test of the verdict, in its order, is the code's. Assumes nothing.
use mathlib.Core.Path.{sym, ◌∙◌}
use native.Mathlib.Nat.{le_refl}
use borrow.Author.Tests.{lt-leb, le-leb, ne_eqb, eq-eqb}
use Rattle.av1.specs.Calls.{front}
use Rattle.av1.proofs.Tested.{within}
use Rattle.av1.proofs.judge.Goals as goal

pub returns-then-not-contains : goal.returns-then-not-contains
unfolding front
returns-then-not-contains c =
    let r = c.new.ensures in
    let bits = sym (within 16 20 c.args.bits) ∙ sym (rw (r.start, r.end, r.exhausted) at c.contains.ensures.value) in
    rw (bits ∙ c.if-not-contains.true)

pub returns-then-not-has_length : goal.returns-then-not-has_length
unfolding front
returns-then-not-has_length c =
    let r = c.new.ensures in
    let bits = sym (within 16 20 c.args.bits) ∙ sym (rw (r.start, r.end, r.exhausted) at c.contains.ensures.value) in
    rw (bits ∙ c.if-not-contains.false, sym c.has_length.ensures ∙ c.if-not-has_length.true)

pub returns-then-t-n : goal.returns-then-t-n
unfolding front
returns-then-t-n c =
    let r = c.new.ensures in
    let bits = sym (within 16 20 c.args.bits) ∙ sym (rw (r.start, r.end, r.exhausted) at c.contains.ensures.value) in
    rw (bits ∙ c.if-not-contains.false, sym c.has_length.ensures ∙ c.if-not-has_length.false, ne_eqb _ _ c.if-t-n.true)

pub returns-in-Some : goal.returns-in-Some
unfolding front
returns-in-Some c =
    let r = c.new.ensures in
    let bits = sym (within 16 20 c.args.bits) ∙ sym (rw (r.start, r.end, r.exhausted) at c.contains.ensures.value) in
    let f = rw (c.of_bits.ensures.lo, c.of_bits.ensures.hi, c.if-t-n.false) at c.in-Some.ensures in
    rw (bits ∙ c.if-not-contains.false, sym c.has_length.ensures ∙ c.if-not-has_length.false, eq-eqb _ _ c.if-t-n.false, f.0, lt-leb _ _ f.1)

pub returns-in-None : goal.returns-in-None
unfolding front
returns-in-None c =
    let r = c.new.ensures in
    let bits = sym (within 16 20 c.args.bits) ∙ sym (rw (r.start, r.end, r.exhausted) at c.contains.ensures.value) in
    let f = rw (c.of_bits.ensures.lo, c.of_bits.ensures.hi, c.if-t-n.false) at c.in-None.ensures in
    rw (bits ∙ c.if-not-contains.false, sym c.has_length.ensures ∙ c.if-not-has_length.false, eq-eqb _ _ c.if-t-n.false, f, le-leb _ _ (le_refl c.args.n))
