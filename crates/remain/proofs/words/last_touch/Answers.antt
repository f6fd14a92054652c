-- `remain::words::last_touch` meets its contract: the number at the place that the search finds. Assumes nothing.
use mathlib.Core.Path.{◌≡◌, sym, ap, ◌∙◌}
use mathlib.Core.List.{List}
use Prim.Native.Nat.{ℕ, suc, ◌<◌}
use native.Mathlib.Omega.{arith}
use Rattle.remain.specs.Touch.{touches, latest}
use Rattle.remain.specs.Remaining.{mark_at, number_before}
use Rattle.remain.proofs.Finds.{last-most, touch-last}
use Rattle.remain.proofs.words.last_touch.Goals as goal

below : (s : List ℕ) (r c n i : ℕ) → suc i ≡ latest s r c n → i < n
below s r c n i e = omega (arith, e, last-most (λ k. touches r c (mark_at s k)) n)

pub overflow_mul-result : goal.overflow_mul-result
overflow_mul-result c = omega (arith, below c.args.s.now c.args.row c.args.column c.args.n c.in-Some.i c.in-Some.ensures)

pub overflow_add-result : goal.overflow_add-result
overflow_add-result c = omega (arith, below c.args.s.now c.args.row c.args.column c.args.n c.in-Some.i c.in-Some.ensures)

pub offset_bounds-s-i : goal.offset_bounds-s-i
offset_bounds-s-i c = omega (arith, below c.args.s.now c.args.row c.args.column c.args.n c.in-Some.i c.in-Some.ensures)

pub bounds-s-i : goal.bounds-s-i
bounds-s-i c = omega (arith, below c.args.s.now c.args.row c.args.column c.args.n c.in-Some.i c.in-Some.ensures)

pub returns-in-Some : goal.returns-in-Some
returns-in-Some c = ap (number_before c.args.s.now) c.in-Some.ensures ∙ sym (touch-last c.args.s.now c.args.row c.args.column c.args.n)

pub returns-in-None : goal.returns-in-None
returns-in-None c = ap (number_before c.args.s.now) c.in-None.ensures ∙ sym (touch-last c.args.s.now c.args.row c.args.column c.args.n)
