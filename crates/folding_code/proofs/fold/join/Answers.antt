-- `folding_code::fold::join` meets its contract: the sum decides. Assumes nothing.
use mathlib.Core.Path.{◌≡◌, refl, sym, ap, ◌∙◌, subst}
use mathlib.Core.Bool.{true}
use mathlib.Core.List.{List}
use Prim.Native.Nat.{ℕ, suc}
use native.Mathlib.Nat.{le_refl}
use borrow.Author.Tests.{not-true, not-false}
use lib.ListN.{length}
use Rattle.remain.specs.Remaining.{word}
use Rattle.folding.specs.Fold.{is_zero, sizes}
use Rattle.folding.specs.Owners.{owner, Placed}
use Rattle.folding.proofs.Turns.{refused, fair-here, settled, head-is}
use Rattle.folding_code.proofs.fold.join.Goals as goal
use Rattle.folding_code.proofs.fold.join.Lts as lts
use Rattle.folding_code.proofs.fold.join.Reads as reads
use Rattle.folding_code.proofs.fold.join.Tie as tie

abbrev Start : Type 0
Start = lts.Start tie.the-claims reads.Pre reads.Post tie.handed_clauses

-- the partner stands for a step of the folded list
head : (s : Start) → owner s.args.o.now s.args.h ≡ s.args.h
head s = head-is (owner s.args.o.now) s.args.s.now (word s.args.s.now s.args.i 2) (word s.args.s.now s.args.i 3) s.args.h s.args.i s.requires.h_lt_i.1

pub sum-requires : goal.sum-requires
sum-requires c =
    let q = c.requires.listed.0 in
    let p = c.requires.listed.1 in
    record {
      i_bound = (q.most, q.levels, p.long, q.sixteen c.args.i (le_refl (suc c.args.i)));
      sums = (p.sums c.args.h c.requires.h_lt_i.0 (head c.before.before.before.before), refl);
    }

pub in_size-requires : goal.in_size-requires
in_size-requires c = (c.requires.listed.0.deep c.args.i (le_refl (suc c.args.i)), ap length c.sum.ensures)

pub returns-then-not-in_size : goal.returns-then-not-in_size
returns-then-not-in_size c =
    refused c.args.s.now c.args.l.now c.args.o.now c.args.i c.requires.listed.0 c.requires.listed.1 c.requires.listed.2 c.args.o.now c.requires.listed.1.long
    (fair-here c.args.s.now c.args.l.now c.args.o.now c.args.i c.requires.listed.0 c.requires.listed.1 c.requires.listed.2 c.args.h c.requires.h_lt_i.0 c.requires.h_lt_i.1 c.requires.h_lt_i.2 (head c.before.before.before.before.before.before.before.before.before.before)
    ∙ ap (sizes (word c.args.s.now c.args.i 1)) (sym c.sum.ensures) ∙ sym c.in_size.ensures ∙ not-true _ c.if-not-in_size.true-raw)

pub is_zero-requires : goal.is_zero-requires
is_zero-requires c = ap length c.sum.ensures

pub returns : goal.returns
returns c =
    let e = c.sum.ensures in
    subst (λ (o : List ℕ). Placed c.args.s.now c.args.l.now o (suc c.args.i) true) (sym c.settle.ensures)
    (settled c.args.s.now c.args.l.now c.args.o.now c.args.i c.requires.listed.0 c.requires.listed.1 c.requires.listed.2 c.args.h c.requires.h_lt_i.0 c.requires.h_lt_i.1 c.requires.h_lt_i.2 (head c.before.before.before.before.before.before.before.before.before.before.before.before.before.before.before.before)
    c.is_zero.result (c.is_zero.ensures ∙ ap is_zero e)
    (ap (sizes (word c.args.s.now c.args.i 1)) (sym e) ∙ sym c.in_size.ensures ∙ not-false _ c.if-not-in_size.false-raw))
