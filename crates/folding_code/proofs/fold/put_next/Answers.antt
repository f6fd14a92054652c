-- `folding_code::fold::put_next` meets its contract: a step that stands for one, or another. Assumes nothing.
use mathlib.Core.Path.{refl, sym, ◌∙◌, subst}
use Prim.Native.Nat.{◌+◌}
use native.Mathlib.Omega.{arith}
use borrow.Author.Tests.{eq-eqb, ne_eqb}
use Rattle.folding.specs.Owners.{owner, Put}
use Rattle.folding_code.proofs.fold.put_next.Goals as goal

pub returns-then-owner-h : goal.returns-then-owner-h
returns-then-owner-h c =
    subst (Put c.args.s.now c.args.l.now c.args.o.now c.args.n c.args.h c.args.m c.args.s.now c.args.l.now c.args.m)
    (sym (ne_eqb (owner c.args.o.now c.args.h) c.args.h (λ q. c.if-owner-h.true (c.owner.ensures ∙ q))))
    (record { next = refl; steps = refl; levels = refl })

pub put_sum-requires : goal.put_sum-requires
put_sum-requires c =
    (omega (arith, c.requires.room, c.requires.less, c.requires.most), c.requires.most, c.requires.levels, c.requires.owners, c.requires.sums (sym c.owner.ensures ∙ c.if-owner-h.false))

pub returns : goal.returns
returns c =
    subst (Put c.args.s.now c.args.l.now c.args.o.now c.args.n c.args.h c.args.m c.put_numbered.new.s c.put_sum.new.l (c.args.m + 1))
    (sym (eq-eqb (owner c.args.o.now c.args.h) c.args.h (sym c.owner.ensures ∙ c.if-owner-h.false)))
    (record { next = refl; steps = c.put_numbered.ensures; levels = c.put_sum.ensures })
