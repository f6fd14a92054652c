-- `lanes::by_length::kernel32` meets its contract: in each arm the code is known, and the kernel's promise is its own. Assumes nothing.
use mathlib.Core.Path.{◌≡◌, refl}
use native.Mathlib.Omega.{arith}
use Rattle.whole.specs.Lanes.{col}
use Rattle.tables.specs.Dense.{dense_of}
use Rattle.lanes.proofs.Picks.{highest-code, code_gives}
use Rattle.lanes.proofs.by_length.kernel32.Goals as goal

pub returns-in-0 : goal.returns-in-0
unfolding dense_of
returns-in-0 g c = code_gives (col g.L.Lanes.lane) 32 c.args.xs.now c.g_dct32.new.e c.in-0.is c.g_dct32.ensures

pub returns-in_default : goal.returns-in_default
unfolding dense_of
returns-in_default g c =
    let e : c.args.code ≡ 1 = omega (arith, highest-code 32 c.args.code c.requires.0 32 1 refl refl) in
    code_gives (col g.L.Lanes.lane) 32 c.args.xs.now c.times.new.e e c.times.ensures
