-- `folding_code::fold::put_back` meets its contract: at h, the groups of the first h steps are written. Assumes nothing.
use mathlib.Core.Path.{sym, ◌∙◌}
use native.Mathlib.Omega.{arith}
use lib.ListN.{length-set}
use Rattle.folding.proofs.Writes.{putting-start, putting-asks, putting-more, putting-done, room, steps-count, levels-count}
use Rattle.folding_code.proofs.fold.put_back.Goals as goal

pub loop-h-init : goal.loop-h-init
loop-h-init c = putting-start c.args.s.now c.args.l.now c.args.o.now c.args.n c.requires.0 c.requires.1

pub put_next-m-requires : goal.put_next-m-requires
put_next-m-requires c = putting-asks c.args.s.now c.args.l.now c.args.o.now c.args.n c.requires.0 c.requires.1 c.loop-h.invariant c.loop-h-test.true

pub loop-h-preserved : goal.loop-h-preserved
loop-h-preserved c = putting-more c.args.s.now c.args.l.now c.args.o.now c.args.n c.requires.0 c.requires.1 c.loop-h.invariant c.loop-h-test.true c.put_next-m.ensures

pub overflow_cast-s : goal.overflow_cast-s
overflow_cast-s c = omega (arith, room c.args.s.now c.args.l.now c.args.o.now c.args.n c.requires.0 c.requires.1 c.loop-h.invariant, c.loop-h.invariant.most, c.requires.0.most)

pub bounds-s-0 : goal.bounds-s-0
bounds-s-0 c = omega (arith, steps-count c.args.s.now c.args.l.now c.args.o.now c.args.n c.requires.0 c.requires.1 c.loop-h.invariant)

pub shape_of-s : goal.shape_of-s
shape_of-s c = simp length-set (steps-count c.args.s.now c.args.l.now c.args.o.now c.args.n c.requires.0 c.requires.1 c.loop-h.invariant ∙ sym c.requires.0.steps)

pub shape_of-l : goal.shape_of-l
shape_of-l c = levels-count c.args.s.now c.args.l.now c.args.o.now c.args.n c.requires.0 c.requires.1 c.loop-h.invariant ∙ sym c.requires.0.levels

pub returns : goal.returns
returns c = putting-done c.args.s.now c.args.l.now c.args.o.now c.args.n c.requires.0 c.requires.1 c.loop-h.invariant (omega arith)
