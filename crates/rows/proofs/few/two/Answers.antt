-- `rows::few::two` meets its contract: no weight is larger than 128. Assumes nothing.
use mathlib.Core.Path.{◌≡◌, ◌∙◌}
use Prim.Native.Nat.{◌*◌, ◌^◌, ◌≤◌, ◌<◌}
use borrow.Author.Rules.{rules}
use lib.Dec.{lit<, lit≤}
use lib.IntN.{ℤ, ◌*ℤ◌, nat_abs}
use lib.Signed.{mag}
use mir.Syntax.{w8, w32}
use mir.Val.{SFits, to_z, of_z}
use Rattle.tables.proofs.Heads.{byte-size}
use Rattle.whole.proofs.Num.{Num, given, plus, times, read, ask, size_of, back}
use Rattle.rows.proofs.few.two.Goals as goal

-- an input times its weight
product : {x a r : ℤ} → SFits w32 x → nat_abs x ≤ 2 ^ 19 → SFits w8 a → r ≡ a → mag r < 2147483648 → Num (to_z w32 (of_z w32 x) *ℤ to_z w32 (of_z w32 r)) (x *ℤ a) (2 ^ 19 * 128)
product {x} {a} {r} f s g e m =
    let w : Num (to_z w32 (of_z w32 r)) a 128 = record { is = back m ∙ e; size = byte-size a g.sfits } in
    times (given f s) w

pub overflow_mul-result : goal.overflow_mul-result
overflow_mul-result c =
    let e : c.from.result ≡ c.args.u = search rules in
    ask (product c.ranges.x c.requires.0 c.ranges.u e c.from.type_inv) w32 (lit< tt)

pub overflow_mul-result-2 : goal.overflow_mul-result-2
overflow_mul-result-2 c =
    let e : c.from-2.result ≡ c.args.v = search rules in
    ask (product c.ranges.y c.requires.1 c.ranges.v e c.from-2.type_inv) w32 (lit< tt)

pub overflow_add-result : goal.overflow_add-result
overflow_add-result c =
    let d : c.from.result ≡ c.args.u = search rules in
    let e : c.from-2.result ≡ c.args.v = search rules in
    ask (plus (read (product c.ranges.x c.requires.0 c.ranges.u d c.from.type_inv) w32 (lit< tt)) (read (product c.ranges.y c.requires.1 c.ranges.v e c.from-2.type_inv) w32 (lit< tt))) w32 (lit< tt)

pub returns : goal.returns
returns c =
    let d : c.from.result ≡ c.args.u = search rules in
    let e : c.from-2.result ≡ c.args.v = search rules in
    let t = read (plus (read (product c.ranges.x c.requires.0 c.ranges.u d c.from.type_inv) w32 (lit< tt)) (read (product c.ranges.y c.requires.1 c.ranges.v e c.from-2.type_inv) w32 (lit< tt))) w32 (lit< tt) in
    (t.is, size_of t (lit≤ tt))
