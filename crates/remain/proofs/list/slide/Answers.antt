-- `remain::list::slide` meets its contract: a copy within the list. Assumes nothing.
use Prim.Native.Nat.{◌+◌, ◌-◌}
use native.Mathlib.Omega.{arith}
use Rattle.remain.proofs.Slides.{slid-is}
use Rattle.remain.proofs.list.slide.Goals as goal

pub returns : goal.returns
returns g c z =
    slid-is z c.args.a c.args.e g.row.N (c.args.e + g.row.N - (c.args.a + g.row.N)) c.args.s.now c.copy_within.new.self c.requires.0 (omega arith) c.copy_within.ensures.len
    c.copy_within.ensures.by_index.0 c.copy_within.ensures.by_index.1 c.copy_within.ensures.by_index.2
