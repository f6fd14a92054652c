-- `groups::lane_pass` meets its contract: after each turn the lines of a group more have gone through the kernel. Assumes nothing.
use Prim.Native.Nat.{◌+◌, ◌≤◌, ◌<◌}
use native.Mathlib.Nat as N
use native.Mathlib.Omega.{arith}
use Rattle.whole.proofs.Grid.{lines_start, lines-done}
use Rattle.groups.proofs.Together.{turn-places, turn-bound, turn-left}
use Rattle.groups.proofs.lane_pass.Given.{Over}
use Rattle.groups.proofs.lane_pass.Goals as goal
use Rattle.groups.proofs.lane_pass.Goals.{After-min-lines}

pub loop-line-init : goal.loop-line-init
loop-line-init g c = lines_start

pub overflow_mul-base : goal.overflow_mul-base
overflow_mul-base g c =
    let h : c.loop-line.line ≤ 32 = omega (arith, c.loop-line-test.true, c.requires.code_value.3) in
    omega (arith, N.mul-le-mul_right c.args.s h, c.requires.code_value.4)

-- how many lines go together
together : (g : Over) (c : After-min-lines g) → (c.loop-line.line + c.min-lines.result ≤ c.args.count) × (c.min-lines.result ≤ g.L.Lanes.WIDTH) × (0 < c.min-lines.result)
together g c = (omega (arith, c.min-lines.ensures, c.loop-line-test.true), omega (arith, c.min-lines.ensures), omega (arith, c.min-lines.ensures, c.requires.code_value.2, c.loop-line-test.true))

pub through-requires : goal.through-requires
through-requires g c =
    let t = together g c.before in
    record {
      space = c.requires.space;
      code_value = (c.requires.code_value.0, c.requires.code_value.1, c.requires.code_value.5, turn-places c.args.s c.args.p c.loop-line.invariant c.min-lines.result t.0 c.requires.code_value.6, t.1, t.2);
      by_index = turn-bound c.args.s c.args.p c.loop-line.invariant c.min-lines.result t.0 c.requires.code_value.6 c.args.live c.requires.code_value.5 c.requires.by_index;
    }

pub loop-line-preserved : goal.loop-line-preserved
loop-line-preserved g c =
    let t = together g c.before.before.before in
    turn-left c.args.s c.args.p c.loop-line.invariant c.min-lines.result t.0 c.requires.code_value.6 c.through.new.work c.through.auto.work (c.through.ensures.by_index_2, c.through.ensures.by_index_3)

pub returns : goal.returns
returns g c = λ k x a b. lines-done c.loop-line.invariant c.loop-line-test.false k x a b
