-- `keeping::front::entry_ok` meets its contract: the mark, then the search over its sixteen levels. Assumes nothing.
use mathlib.Core.Path.{◌≡◌, sym, ap, ◌∙◌}
use Prim.Native.Nat.{◌+◌, ◌*◌, ◌-◌}
use native.Mathlib.Omega.{arith}
use lib.Dec.{leb}
use lib.IntN.{pos, neg_ℤ}
use lib.ListN.{take, drop}
use Rattle.wht.specs.Calls.{number_ok}
use Rattle.wht.proofs.Lists.{passes-by}
use Rattle.keeping.specs.Range.{first_off}
use Rattle.keeping.proofs.front.entry_ok.Goals as goal

pub returns : goal.returns
returns c =
    let l = c.args.l.now in
    let a = 16 * c.args.i in
    let q : a + 16 - a ≡ 16 = omega arith in
    let t = passes-by (number_ok (neg_ℤ (pos 262144)) (pos 262144) (take (a + 16 - a) (drop a l))) 16 c.find_bad.result c.find_bad.ensures c.is_none.ensures in
    rw (sym c.mark_ok.ensures ∙ c.if-not-mark_ok.false) (t ∙ ap (λ n. leb 16 (first_off (take n (drop a l)))) q)
