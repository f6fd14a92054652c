-- `groups::scatter` meets its contract: after i turns the first i records are written back, and no other place is changed. Assumes nothing.
use mathlib.Core.Path.{sym, subst}
use mathlib.Core.List.{List}
use Prim.Native.Nat.{ℕ, ◌+◌, ◌<◌}
use native.Mathlib.Nat as N
use native.Mathlib.Omega.{arith}
use lib.IntN.{ℤ, pos}
use lib.ListN.{length, get_or}
use Rattle.whole.specs.Lanes.{col, spot}
use Rattle.whole.proofs.Groups.{Scattering, scatter-start, scatter-more}
use Rattle.lanes.proofs.Columns.{col-read}
use Rattle.groups.proofs.scatter.Given.{Over}
use Rattle.groups.proofs.scatter.Goals as goal
use Rattle.groups.proofs.scatter.Goals.{In-loop-i}

-- each of the places of a record lies in the work area
place : (g : Over) (c : In-loop-i g) (k : ℕ) → k < c.args.lines → spot c.args.base c.args.p c.args.s k c.loop-i.i < length c.loop-i.work
place g c k h = subst (λ (n : ℕ). spot c.args.base c.args.p c.args.s k c.loop-i.i < n) (sym c.loop-i.invariant.long) (c.requires.1.inside k c.loop-i.i h c.loop-i-test.true)

pub loop-i-init : goal.loop-i-init
loop-i-init g c = scatter-start

pub overflow_mul-q : goal.overflow_mul-q
overflow_mul-q g c = omega (arith, place g c 0 c.requires.3)

pub overflow_add-q : goal.overflow_add-q
overflow_add-q g c = omega (arith, place g c 0 c.requires.3)

pub put_record-requires : goal.put_record-requires
put_record-requires g c = (
  c.requires.2,
  λ k h. subst (λ (n : ℕ). spot c.args.base c.args.p c.args.s k c.loop-i.i < n) (sym c.loop-i.invariant.long) (c.requires.1.inside k c.loop-i.i h c.loop-i-test.true),
)

pub loop-i-preserved : goal.loop-i-preserved
loop-i-preserved g c =
    let at = g.L.Lanes.lane in
    subst (λ (u : List ℤ). Scattering c.args.lines c.args.m (spot c.args.base c.args.p c.args.s) (λ k x. get_or (col at k c.args.ls.now) x (pos 0)) c.args.work.now u (c.loop-i.i + 1)) (sym c.put_record.ensures)
    (scatter-more c.loop-i.invariant c.loop-i-test.true c.requires.1.inside c.requires.1.apart (at c.index-ls-i.result) (col-read at c.args.ls.now (omega (arith, c.requires.0, c.loop-i-test.true)) c.index-ls-i.is))

pub returns : goal.returns
returns g c = record {
  by_index = λ k i a b. c.loop-i.invariant.holds k i a (N.lt_of_lt_of_le b c.loop-i-test.false);
  by_index_2 = λ z h. c.loop-i.invariant.others z h;
}
