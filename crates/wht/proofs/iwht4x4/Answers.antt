-- `wht::iwht4x4` meets its contract: the verdict, and where it is Done the transform. Assumes nothing.
use mathlib.Core.Path.{sym, ap}
use lib.Dec.{lit≤}
use lib.IntN.{pos, neg_ℤ}
use lib.ListN.{length}
use Rattle.answers.specs.declared.Answer.{Answer}
use Rattle.answers.proofs.Verdicts.{ends-err, ends-ok}
use Rattle.wht.specs.Wht.{iwht}
use Rattle.wht.specs.Calls.{iwht_of}
use Rattle.wht.proofs.Lists.{accepted}
use Rattle.wht.proofs.iwht4x4.Goals as goal

pub returns-in-Err : goal.returns-in-Err
unfolding iwht_of
returns-in-Err c = rw c.from.ensures (ends-err c.args.resid.now (iwht c.args.level.now) c.in-Err.reason c.in-Err.ensures)

pub residuals-requires : goal.residuals-requires
residuals-requires c =
    accepted 262144 (neg_ℤ (pos 262144)) (pos 262144) (lit≤ tt) (lit≤ tt) c.args.level.now (length c.args.resid.now)
    (ap (λ (a : Answer). a.number) (sym c.in-Ok.ensures))

pub returns-in-Ok : goal.returns-in-Ok
unfolding iwht_of
returns-in-Ok c = rw (c.finished.ensures, c.residuals.ensures) (ends-ok c.args.resid.now (iwht c.args.level.now) c.in-Ok.ensures)
