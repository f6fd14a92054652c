-- `rows::sums::dot` meets its contract: after j turns the sum is that of the first j products, and no partial sum exceeds the spread. Assumes nothing.
use mathlib.Core.Path.{◌≡◌}
use mathlib.Core.List.{map}
use native.Mathlib.Omega.{arith}
use lib.IntN.{pos}
use lib.ListN.{get_or}
use mir.Syntax.{w32}
use mir.Val.{to_z}
use borrow.Author.Rules.{rules}
use Rattle.rows.proofs.Dots.{Term, product_fits, sum_fits, sum_next, term}
use Rattle.rows.proofs.sums.dot.Goals as goal

pub overflow_mul-acc : goal.overflow_mul-acc
overflow_mul-acc g c =
    let e : c.from.result ≡ get_or c.args.mat.now c.loop-j.j (pos 0) = search rules in
    let q : c.wide.result ≡ g.T.Number.value c.index-v-j.result = c.wide.ensures in
    let t : Term c.args.mat.now (map g.T.Number.value c.args.v.now) c.loop-j.j (to_z w32 c.loop-j.acc-bits) c.from.result c.wide.result =
    term g.T.Number.value c.args.v.now {y = c.index-v-j.result} e c.from.type_inv q c.wide.type_inv c.index-v-j.is (omega arith) c.loop-j.invariant c.requires.1 in
    product_fits t

pub overflow_add-acc : goal.overflow_add-acc
overflow_add-acc g c =
    let e : c.from.result ≡ get_or c.args.mat.now c.loop-j.j (pos 0) = search rules in
    let q : c.wide.result ≡ g.T.Number.value c.index-v-j.result = c.wide.ensures in
    let t : Term c.args.mat.now (map g.T.Number.value c.args.v.now) c.loop-j.j (to_z w32 c.loop-j.acc-bits) c.from.result c.wide.result =
    term g.T.Number.value c.args.v.now {y = c.index-v-j.result} e c.from.type_inv q c.wide.type_inv c.index-v-j.is (omega arith) c.loop-j.invariant c.requires.1 in
    sum_fits t

pub loop-j-preserved : goal.loop-j-preserved
loop-j-preserved g c =
    let e : c.from.result ≡ get_or c.args.mat.now c.loop-j.j (pos 0) = search rules in
    let q : c.wide.result ≡ g.T.Number.value c.index-v-j.result = c.wide.ensures in
    let t : Term c.args.mat.now (map g.T.Number.value c.args.v.now) c.loop-j.j (to_z w32 c.loop-j.acc-bits) c.from.result c.wide.result =
    term g.T.Number.value c.args.v.now {y = c.index-v-j.result} e c.from.type_inv q c.wide.type_inv c.index-v-j.is (omega arith) c.loop-j.invariant c.requires.1 in
    sum_next t
