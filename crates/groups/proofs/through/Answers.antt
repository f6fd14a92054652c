-- `groups::through` meets its contract: areas that are long enough, and not larger than 32 records. Assumes nothing.
use native.Mathlib.Omega.{arith}
use Rattle.groups.proofs.Together.{short}
use Rattle.groups.proofs.through.Goals as goal

pub in_areas-requires : goal.in_areas-requires
in_areas-requires g c =
    let q = c.requires.code_value in
    record { space = omega (arith, c.requires.space); code_value = (q.0, q.1, omega arith, q.2, q.3, q.4, q.5); by_index = c.requires.by_index }

pub in_areas-requires-else-m-le8 : goal.in_areas-requires-else-m-le8
in_areas-requires-else-m-le8 g c =
    let q = c.requires.code_value in
    record { space = c.requires.space; code_value = (q.0, q.1, short c.args.n q.1, q.2, q.3, q.4, q.5); by_index = c.requires.by_index }
