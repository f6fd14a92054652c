-- `folding_code::fold::settle` meets its contract: one store, or two. Assumes nothing.
use mathlib.Core.Path.{sym, ap}
use mathlib.Core.Bool.{cond}
use native.Mathlib.Omega.{arith}
use lib.ListN.{set, length-set}
use Rattle.folding_code.proofs.fold.settle.Goals as goal

pub bounds-o-h : goal.bounds-o-h
bounds-o-h c = simp length-set (omega arith)

pub returns-then-gone : goal.returns-then-gone
returns-then-gone c = ap (λ b. cond b (set (set c.args.o.now c.args.i c.args.h) c.args.h 4096) (set c.args.o.now c.args.i c.args.h)) (sym c.if-gone.true)

pub returns-else-gone : goal.returns-else-gone
returns-else-gone c = ap (λ b. cond b (set (set c.args.o.now c.args.i c.args.h) c.args.h 4096) (set c.args.o.now c.args.i c.args.h)) (sym c.if-gone.false)
