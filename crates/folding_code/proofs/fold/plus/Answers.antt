-- `folding_code::fold::plus` meets its contract: at k, the first k numbers are summed. Assumes nothing.
use mathlib.Core.Path.{sym, ap, ◌∙◌, subst}
use Prim.Native.Nat.{ℕ, ◌+◌, ◌≤◌, ◌<◌}
use native.Mathlib.Omega.{arith}
use lib.Dec.{lit<}
use lib.IntN.{ℤ, pos, nat_abs, ◌+ℤ◌}
use lib.ListN.{length, get_or}
use mir.Syntax.{w32}
use mir.Val.{to_z, of_z}
use Rattle.whole.specs.Sums.{tab}
use Rattle.whole.proofs.Fill.{place-more, place-now, place-done}
use Rattle.whole.proofs.Num.{Num, made, plus, read}
use Rattle.folding_code.proofs.fold.plus.Goals as goal

pub loop-k-preserved : goal.loop-k-preserved
loop-k-preserved c =
    let k = c.loop-k.k in
    let i : k < length c.args.out.now = omega (arith, c.loop-k.invariant.fill.long) in
    let x = get_or c.loop-k.out k (pos 0) in
    let y = get_or c.args.a.now k (pos 0) in
    let both : Num (to_z w32 (of_z w32 x) +ℤ to_z w32 (of_z w32 y)) (x +ℤ y) (1048576 + 1048576) =
    plus (made w32 {z = x} (subst (λ (z : ℤ). nat_abs z ≤ 1048576) (sym (place-now c.loop-k.invariant)) (c.requires.1.small k i)) (lit< tt))
    (made w32 {z = y} (c.requires.0.small k (omega (arith, c.requires.0.count, c.requires.1.count))) (lit< tt)) in
    place-more c.loop-k.invariant i ((read both w32 (lit< tt)).is ∙ ap (λ z. z +ℤ y) (place-now c.loop-k.invariant))

pub returns : goal.returns
returns c =
    let f : ℕ → ℤ = λ j. get_or c.args.out.now j (pos 0) +ℤ get_or c.args.a.now j (pos 0) in
    place-done c.loop-k.invariant (omega (arith, c.requires.1.count)) ∙ ap (λ (n : ℕ). tab n f) c.requires.1.count
