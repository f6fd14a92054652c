-- `av1::steps::sums` meets its contract: the tests in their order, and the two stores. Assumes nothing.
use mathlib.Core.Path.{◌≡◌}
use Prim.Native.Nat.{◌≤◌}
use lib.Dec.{lit<}
use lib.IntN.{ℤ, nat_abs, ◌+ℤ◌, ◌-ℤ◌}
use mir.Syntax.{w32}
use mir.Val.{to_z, of_z}
use Rattle.std.proofs.lemmas.Result.{err_from_is_err_and}
use Rattle.whole.specs.Sums.{item}
use Rattle.whole.proofs.Num.{Num, made, plus, minus, ask, read}
use Rattle.av1.proofs.Between.{fits}
use Rattle.av1.proofs.steps.sums.Goals as goal

abbrev M : ℤ → ℤ
M z = to_z w32 (of_z w32 z)

number : (z : ℤ) → nat_abs z ≤ 2097152 → Num (M z) z 2097152
number z h = made w32 h (lit< tt)

module _ (x y : ℤ) (h : nat_abs x ≤ 2097152) (k : nat_abs y ≤ 2097152) where
  sum : Num (M x +ℤ M y) (x +ℤ y) 4194304
  sum = plus (number x h) (number y k)

  difference : Num (M x -ℤ M y) (x -ℤ y) 4194304
  difference = minus (number x h) (number y k)

module _ (x y : ℤ) (h : nat_abs x ≤ 2097152) (k : nat_abs y ≤ 2097152) where
  sum-is : M (M x +ℤ M y) ≡ x +ℤ y
  sum-is = (read (sum x y h k) w32 (lit< tt)).is

  difference-is : M (M x -ℤ M y) ≡ x -ℤ y
  difference-is = (read (difference x y h k) w32 (lit< tt)).is

pub overflow_add-u : goal.overflow_add-u
overflow_add-u c = ask (sum (item c.args.w.now c.args.a) (item c.args.w.now c.args.b) c.requires.a_bound.0 c.requires.a_bound.1) w32 (lit< tt)

pub overflow_sub-v : goal.overflow_sub-v
overflow_sub-v c = ask (difference (item c.args.w.now c.args.a) (item c.args.w.now c.args.b) c.requires.a_bound.0 c.requires.a_bound.1) w32 (lit< tt)

pub returns-in_err-between : goal.returns-in_err-between
returns-in_err-between c =
    let x = item c.args.w.now c.args.a in
    let y = item c.args.w.now c.args.b in
    let h = c.requires.a_bound in
    let r = err_from_is_err_and c.from_residual.result c.from_residual.ensures.1 in
    let e = c.in_err-between.ensures in
    rw (r.1, r.2, e.1, fits _ _ (sum-is x y h.0 h.1) e.0)

pub returns-in_err-between-2 : goal.returns-in_err-between-2
returns-in_err-between-2 c =
    let x = item c.args.w.now c.args.a in
    let y = item c.args.w.now c.args.b in
    let h = c.requires.a_bound in
    let r = err_from_is_err_and c.from_residual-in_err-between-2.result c.from_residual-in_err-between-2.ensures.1 in
    let e = c.in_err-between-2.ensures in
    rw (r.1, r.2, e.1, fits _ _ (sum-is x y h.0 h.1) c.in_ok-between.ensures, fits _ _ (difference-is x y h.0 h.1) e.0)

pub returns : goal.returns
returns c =
    let x = item c.args.w.now c.args.a in
    let y = item c.args.w.now c.args.b in
    let h = c.requires.a_bound in
    rw (sum-is x y h.0 h.1, difference-is x y h.0 h.1, fits _ _ (sum-is x y h.0 h.1) c.in_ok-between.ensures, fits _ _ (difference-is x y h.0 h.1) c.in_ok-between-2.ensures)
