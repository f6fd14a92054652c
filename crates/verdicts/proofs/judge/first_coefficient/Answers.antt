-- `judge::first_coefficient` meets its contract: where a call clamps and scales nothing, any number passes. Assumes nothing.
use mathlib.Core.Path.{sym}
use Prim.Native.Nat.{◌*◌}
use Rattle.verdicts.proofs.Judging.{coeff-none}
use Rattle.verdicts.proofs.judge.first_coefficient.Goals as goal

pub returns-else-scale : goal.returns-else-scale
returns-else-scale c = rw (c.if-strict.false, c.if-scale.false) (sym (coeff-none c.args.bd c.args.coeff.now (c.args.sw * c.args.sh)))
