-- `history::history_rebuild` meets its contract: 5 and 12, then the whole index. Assumes nothing.
use mathlib.Core.Path.{sym, ap}
use lib.ListN.{length}
use native.Mathlib.Nat.{le_trans}
use Rattle.answers.specs.declared.Answer.{Answer}
use Rattle.answers.proofs.Verdicts.{ends-err, ends-ok}
use Rattle.remain.specs.Remaining.{count, marks}
use Rattle.remain.specs.Touch.{index_of}
use Rattle.keeping.specs.Range.{area}
use Rattle.history.specs.Calls.{rebuild_of}
use Rattle.keeping.proofs.Facts.{shape_is, kept-is, lying-is}
use Rattle.history.proofs.history_rebuild.Goals as goal

pub returns-in-Err : goal.returns-in-Err
unfolding rebuild_of
returns-in-Err c =
    rw c.from.ensures (ends-err c.args.index.now (index_of c.args.width c.args.rows (marks c.args.steps.now (count c.args.steps.now))) c.in-Err.reason c.in-Err.ensures)

pub rebuild-requires : goal.rebuild-requires
rebuild-requires c =
    let a = area (length c.args.plane.now) c.args.stride c.args.width c.args.rows in
    let k = kept-is a c.args.steps.now c.args.levels.now (length c.args.index.now) (ap (λ (x : Answer). x.number) (sym c.in-Ok.ensures)) in
    let h = shape_is a k.shape in
    record {
      s_bound = (k.most, k.steps, lying-is k);
      width_bound = (le_trans h.width_most h.stride_most, h.rows_most, k.cells);
    }

pub returns-in-Ok : goal.returns-in-Ok
unfolding rebuild_of
returns-in-Ok c =
    rw (c.finished.ensures, c.rebuild.ensures) (ends-ok c.args.index.now (index_of c.args.width c.args.rows (marks c.args.steps.now (count c.args.steps.now))) c.in-Ok.ensures)
