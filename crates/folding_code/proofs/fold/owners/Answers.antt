-- `folding_code::fold::owners` meets its contract: at i, the owners of the first i steps are known and no sum has left its range. Assumes nothing.
use mathlib.Core.Path.{◌≡◌, refl, sym, ◌∙◌, subst}
use mathlib.Core.Bool.{true}
use Prim.Native.Nat.{ℕ, suc}
use native.Mathlib.Omega.{arith}
use native.Mathlib.Numerals.{add-one}
use borrow.Author.Tests.{not-true, not-false}
use lib.Dec.{T}
use Rattle.remain.specs.Remaining.{entries}
use Rattle.folding.specs.Pass.{pass_fair}
use Rattle.folding.specs.Owners.{Owned}
use Rattle.folding.proofs.Turns.{owned-start, unfair, listed-less}
use Rattle.folding_code.proofs.fold.owners.Goals as goal

pub loop-i-init : goal.loop-i-init
unfolding pass_fair
loop-i-init c = (owned-start c.args.s.now c.args.l.now c.args.o.now c.requires.1, refl)

pub place-requires : goal.place-requires
place-requires c = (listed-less c.requires.0 (suc c.loop-i.i) c.loop-i-test.true, c.loop-i.invariant.0, c.loop-i.invariant.1)

pub shape_of-o-then-not-place : goal.shape_of-o-then-not-place
shape_of-o-then-not-place c = c.place.ensures.long ∙ sym c.requires.1

pub returns-then-not-place : goal.returns-then-not-place
returns-then-not-place c =
    let r = c.place.ensures in
    record { fair = unfair c.args.s.now c.args.l.now (suc c.loop-i.i) c.args.n c.loop-i-test.true (r.fair ∙ not-true _ c.if-not-place.true-raw); long = r.long; owned = λ z. absurd (subst T (sym z) tt) }

pub loop-i-preserved : goal.loop-i-preserved
loop-i-preserved c =
    let r = c.place.ensures in
    let e = not-false _ c.if-not-place.false-raw in
    let z = sym (add-one c.loop-i.i) in
    (subst (Owned c.args.s.now c.args.l.now c.place.new.o) z (r.owned e), subst (λ (n : ℕ). pass_fair (entries c.args.s.now c.args.l.now n) ≡ true) z (r.fair ∙ e))

pub shape_of-o : goal.shape_of-o
shape_of-o c = c.loop-i.invariant.0.long ∙ sym c.requires.1

pub returns : goal.returns
returns c =
    let z : c.loop-i.i ≡ c.args.n = omega arith in
    record { fair = subst (λ (n : ℕ). pass_fair (entries c.args.s.now c.args.l.now n) ≡ true) z c.loop-i.invariant.1; long = c.loop-i.invariant.0.long; owned = λ _. subst (Owned c.args.s.now c.args.l.now c.loop-i.o) z c.loop-i.invariant.0 }
