-- `quick::add::is_quick` meets its contract: each test in turn. Assumes nothing.
use mathlib.Core.Path.{◌≡◌, sym, ◌∙◌, subst}
use mathlib.Core.Bool.{true, false}
use Prim.Native.Nat.{◌≤◌, ◌<◌}
use native.Mathlib.Omega.{arith}
use borrow.Author.Tests.{leb-true}
use lib.Dec.{T}
use Rattle.tables.specs.declared.size.Size.{Size}
use Rattle.quick.proofs.Accepted.{wide-side}
use Rattle.quick.proofs.add.is_quick.Goals as goal

pub returns : goal.returns
returns c =
    let z = c.size_of-s in
    let k : c.args.tx < 25 = omega arith in
    let across : 8 ≤ z.result.w = omega arith in
    λ e. record {
      eight = omega arith;
      size = k;
      hor = omega (arith, c.hor.ensures);
      ver = omega (arith, c.ver.ensures);
      across = (wide-side c.args.tx k).0 (subst (λ (q : Size). 8 ≤ q.w) z.ensures across);
      down = (wide-side c.args.tx k).1 (subst (λ (q : Size). 8 ≤ q.h) z.ensures (leb-true 8 z.result.h e));
    }
