-- `lanes::by_length::kernel4` meets its contract: in each arm the code is known, and the kernel's promise is its own. Assumes nothing.
use mathlib.Core.Path.{◌≡◌, refl}
use native.Mathlib.Omega.{arith}
use lib.Dec.{lit<}
use Rattle.whole.specs.Lanes.{col}
use Rattle.whole.proofs.Parts.{rows-light}
use Rattle.tables.specs.Dst.{adst4, flipadst4}
use Rattle.tables.specs.Dense.{dense_of}
use Rattle.tables.proofs.Rules.{dst-sizes}
use Rattle.lanes.proofs.Picks.{highest-code, code_gives}
use Rattle.lanes.proofs.by_length.kernel4.Goals as goal

pub returns-in-0 : goal.returns-in-0
unfolding dense_of
returns-in-0 g c = code_gives (col g.L.Lanes.lane) 4 c.args.xs.now c.g_dct4.new.e c.in-0.is c.g_dct4.ensures

pub returns-in-1 : goal.returns-in-1
unfolding dense_of
returns-in-1 g c = code_gives (col g.L.Lanes.lane) 4 c.args.xs.now c.times.new.e c.in-1.is c.times.ensures

pub g_dst-requires : goal.g_dst-requires
g_dst-requires g c = record { mat_len = (refl, rows-light 4 adst4 dst-sizes.0 (lit< tt)); ready = (c.requires.1, omega (arith, c.requires.2)) }

pub returns-in-2 : goal.returns-in-2
unfolding dense_of
returns-in-2 g c = code_gives (col g.L.Lanes.lane) 4 c.args.xs.now c.g_dst.new.out c.in-2.is c.g_dst.ensures

pub g_dst-requires-in_default : goal.g_dst-requires-in_default
g_dst-requires-in_default g c = record { mat_len = (refl, rows-light 4 flipadst4 dst-sizes.3 (lit< tt)); ready = (c.requires.1, omega (arith, c.requires.2)) }

pub returns-in_default : goal.returns-in_default
unfolding dense_of
returns-in_default g c =
    let e : c.args.code ≡ 3 = omega (arith, highest-code 4 c.args.code c.requires.0 4 3 refl refl) in
    code_gives (col g.L.Lanes.lane) 4 c.args.xs.now c.g_dst-in_default.new.out e c.g_dst-in_default.ensures
