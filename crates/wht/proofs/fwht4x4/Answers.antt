-- `wht::fwht4x4` meets its contract: the verdict, and where it is Done the transform. Assumes nothing.
use mathlib.Core.Path.{sym, ap}
use lib.Dec.{lit≤}
use lib.IntN.{pos, neg_ℤ}
use lib.ListN.{length}
use Rattle.answers.specs.declared.Answer.{Answer}
use Rattle.answers.proofs.Verdicts.{ends-err, ends-ok}
use Rattle.wht.specs.Wht.{fwht}
use Rattle.wht.specs.Calls.{fwht_of}
use Rattle.wht.proofs.Lists.{accepted}
use Rattle.wht.proofs.fwht4x4.Goals as goal

pub returns-in-Err : goal.returns-in-Err
unfolding fwht_of
returns-in-Err c = rw c.from.ensures (ends-err c.args.level.now (fwht c.args.resid.now) c.in-Err.reason c.in-Err.ensures)

pub levels-requires : goal.levels-requires
levels-requires c =
    accepted 65535 (neg_ℤ (pos 65535)) (pos 65535) (lit≤ tt) (lit≤ tt) c.args.resid.now (length c.args.level.now)
    (ap (λ (a : Answer). a.number) (sym c.in-Ok.ensures))

pub returns-in-Ok : goal.returns-in-Ok
unfolding fwht_of
returns-in-Ok c = rw (c.finished.ensures, c.levels.ensures) (ends-ok c.args.level.now (fwht c.args.resid.now) c.in-Ok.ensures)
