-- `folding_code::fold::partner` meets its contract: the search has come down to i. Assumes nothing.
use mathlib.Core.Path.{sym, ◌∙◌}
use mathlib.Core.Bool.{Bool, ◌&&◌}
use mathlib.Core.List.{List}
use Prim.Native.Nat.{ℕ}
use native.Mathlib.Omega.{arith}
use lib.Dec.{eqb}
use Rattle.remain.specs.Remaining.{mark_at}
use Rattle.remain.specs.Touch.{touches}
use Rattle.remain.proofs.Finds.{last_step, found-is, none_is}
use Rattle.folding.specs.Owners.{owner}
use Rattle.folding_code.proofs.fold.partner.Goals as goal

abbrev test : List ℕ → List ℕ → ℕ → ℕ → ℕ → Bool
test s o r c j = eqb (owner o j) j && touches r c (mark_at s j)

pub returns-then-standing : goal.returns-then-standing
returns-then-standing c =
    found-is (test c.args.s.now c.args.o.now c.args.row c.args.column) _ _ c.loop-i-test.true c.loop-i.invariant (sym c.standing.ensures ∙ c.if-standing.true)

pub loop-i-preserved : goal.loop-i-preserved
loop-i-preserved c =
    c.loop-i.invariant ∙ last_step (test c.args.s.now c.args.o.now c.args.row c.args.column) c.loop-i.i c.loop-i-test.true (sym c.standing.ensures ∙ c.if-standing.false)

pub returns : goal.returns
returns c = none_is (test c.args.s.now c.args.o.now c.args.row c.args.column) _ _ (omega arith) c.loop-i.invariant
