-- `lanes::dst::g_dst` meets its contract: the loop fills the list with the rows' products. Assumes nothing.
use mathlib.Core.Path.{◌≡◌, sym, ap, ◌∙◌, subst}
use mathlib.Core.List.{List}
use Prim.Native.Nat.{ℕ, ◌+◌, ◌*◌, ◌-◌, ◌^◌, ◌≤◌, ◌<◌}
use native.Mathlib.Omega.{arith}
use native.Mathlib.Nat as N
use lib.IntN.{ℤ}
use lib.ListN.{length, take, drop, length-take}
use Rattle.whole.specs.Sums.{dot_z, spread, row_at}
use Rattle.whole.specs.Lanes.{col}
use Rattle.whole.proofs.Tables.{row-end}
use Rattle.whole.proofs.Parts.{row_room}
use Rattle.whole.proofs.Groups.{lanes_start, lanes-more, lanes-done}
use Rattle.lanes.proofs.dst.g_dst.Given.{Over}
use Rattle.lanes.proofs.dst.g_dst.Goals as goal
use Rattle.lanes.proofs.dst.g_dst.Goals.{After-turned-j}

-- the row that is lent
module _ (g : Over) (c : After-turned-j g) where
  abbrev n : ℕ
  n = c.args.n

  abbrev j : ℕ
  j = c.turned-j.result

  abbrev row : List ℤ
  row = row_at c.args.n c.args.mat.now c.turned-j.result

  end : j * n + n ≤ length c.args.mat.now
  end = omega (arith, row-end c.turned-j.ensures.1, c.requires.mat_len.0)

  lent : take (j * n + n - j * n) (drop (j * n) c.args.mat.now) ≡ row
  lent = ap (λ z. take z (drop (j * n) c.args.mat.now)) (N.add-sub_cancel_left (j * n) n)

  long : length row ≤ n
  long = simp length-take (omega arith)

pub loop-i-init : goal.loop-i-init
loop-i-init g c = lanes_start c.requires.ready.1

pub overflow_mul-a : goal.overflow_mul-a
overflow_mul-a g c = omega (arith, end g c)

pub overflow_add-e : goal.overflow_add-e
overflow_add-e g c = omega (arith, end g c)

pub slice_bounds-g_dot-end : goal.slice_bounds-g_dot-end
slice_bounds-g_dot-end g c = omega (arith, end g c)

pub g_dot-requires : goal.g_dot-requires
g_dot-requires g c =
    let at = g.L.Lanes.lane in
    let b = c.before in
    subst (λ (r : List ℤ). (length r ≤ length c.args.c.now) × ((k : ℕ) → spread r (col at k c.args.c.now) < 2 ^ 31)) (sym (lent g b))
    (omega (arith, long g b, c.requires.ready.0.0), λ k. row_room (row g b) (col at k c.args.c.now) (c.requires.mat_len.1 (j g b) c.turned-j.ensures.1) (c.requires.ready.0.1 k))

pub loop-i-preserved : goal.loop-i-preserved
loop-i-preserved g c =
    let at = g.L.Lanes.lane in
    let b = c.before.before in
    lanes-more c.loop-i.invariant c.loop-i-test.true
    (λ k. c.g_dot.ensures k ∙ ap (λ r. dot_z r (col at k c.args.c.now)) (lent g b) ∙ ap (λ z. dot_z (row_at c.args.n c.args.mat.now z) (col at k c.args.c.now)) c.turned-j.ensures.0)

pub returns : goal.returns
returns g c k = lanes-done c.loop-i.invariant c.loop-i-test.false k
