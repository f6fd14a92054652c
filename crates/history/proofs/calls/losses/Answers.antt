-- `history::calls::losses` meets its contract: the levels that are lent are those of step i. Assumes nothing.
use mathlib.Core.Path.{◌≡◌, sym, ap, ◌∙◌, subst}
use mathlib.Core.Bool.{true}
use Prim.Native.Nat.{◌+◌, ◌*◌, ◌-◌}
use native.Mathlib.Omega.{arith}
use lib.ListN.{take, drop}
use Rattle.wht.specs.Calls.{Sixteen}
use Rattle.lossless.specs.Bounds.{change}
use Rattle.remain.specs.Remaining.{levels_at}
use Rattle.history.proofs.calls.losses.Goals as goal
use Rattle.history.proofs.calls.losses.Lts as lts
use Rattle.history.proofs.calls.losses.Reads as reads
use Rattle.history.proofs.calls.losses.Tie as tie

abbrev Start : Type 0
Start = lts.Start tie.the-claims reads.Pre reads.Post

lent_is : (s : Start) → take (16 * s.args.i + 16 - 16 * s.args.i) (drop (16 * s.args.i) s.args.l.now) ≡ levels_at s.args.l.now s.args.i
lent_is s = let q : 16 * s.args.i + 16 - 16 * s.args.i ≡ 16 = omega arith in ap (λ n. take n (drop (16 * s.args.i) s.args.l.now)) q

pub changes-requires : goal.changes-requires
changes-requires c = (subst (Sixteen 262144) (sym (lent_is c.before.before)) c.requires.2, c.requires.3)

pub returns : goal.returns
returns c = c.changes.ensures ∙ ap (change true) (lent_is c.before.before.before.before)
