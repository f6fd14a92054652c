-- `lanes::fours::g_id` meets its contract: 32 records of four take less than 2^63 bytes, and the factor is read back. Assumes nothing.
use mathlib.Core.Path.{sym, subst}
use Prim.Native.Nat.{◌≤◌}
use lib.Dec.{lit<}
use lib.IntN.{ℤ, nat_abs}
use mir.Syntax.{w32}
use mir.ValLaws.{to_z-of_z}
use Rattle.lanes.proofs.fours.g_id.Goals as goal

pub g_id-requires : goal.g_id-requires
g_id-requires c = (lit< tt, (lit< tt, (c.requires.0, subst (λ (z : ℤ). nat_abs z ≤ 512) (sym (to_z-of_z w32 c.args.k c.ranges.k)) c.requires.1, c.requires.2)))
