-- `Ends::find_bad` meets its contract: its ends are whole numbers of 32 bits. Assumes nothing.
use mathlib.Core.Path.{◌≡◌}
use Prim.Native.Nat.{◌^◌, ◌≤◌}
use lib.Dec.{lit<}
use lib.IntN.{ℤ, nat_abs}
use mir.Syntax.{w32}
use mir.Val.{to_z, of_z}
use Rattle.whole.proofs.Num.{Num, made}
use Rattle.av1.proofs.ends.Ends.find_bad.Goals as goal

same : (z : ℤ) → nat_abs z ≤ 2 ^ 19 → to_z w32 (of_z w32 z) ≡ z
same z h = let n : Num (to_z w32 (of_z w32 z)) z 524288 = made w32 h (lit< tt) in n.is

pub returns : goal.returns
returns c = rw (same c.args.self.lo c.args.self.small.0, same c.args.self.hi c.args.self.small.1) at c.first_bad.ensures
