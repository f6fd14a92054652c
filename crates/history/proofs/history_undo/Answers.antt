-- `history::history_undo` meets its contract: the judge, then the newest is taken out. Assumes nothing.
use mathlib.Core.Path.{◌≡◌, refl, sym, ap, ◌∙◌, subst}
use Prim.Native.Nat.{ℕ, ◌-◌, ◌<◌}
use native.Mathlib.Omega.{arith}
use lib.ListN.{length}
use Rattle.answers.specs.declared.Answer.{Answer}
use Rattle.answers.specs.Answers.{done}
use Rattle.answers.proofs.Verdicts.{ends-err, ends-ok}
use Rattle.remain.specs.Remaining.{count, entry_at}
use Rattle.keeping.specs.Range.{area}
use Rattle.history.specs.Calls.{lent, undoing, taken_out, undo_of}
use Rattle.history.proofs.Taking.{undo-passed, undoable-is, writable-is}
use Rattle.history.proofs.history_undo.Goals as goal

pub returns-in-Err : goal.returns-in-Err
unfolding undo_of
returns-in-Err c =
    let a = area (length c.args.plane.now) c.args.stride c.args.width c.args.rows in
    let m = lent c.args.plane.now c.args.steps.now c.args.levels.now c.args.index.now in
    rw c.from.ensures (ends-err m (taken_out a (count m.steps - 1) m) c.in-Err.reason c.in-Err.ensures.verdict)

pub take_out-requires : goal.take_out-requires
take_out-requires c =
    let a = area (length c.args.plane.now) c.args.stride c.args.width c.args.rows in
    let m = lent c.args.plane.now c.args.steps.now c.args.levels.now c.args.index.now in
    let t = undo-passed a m (ap (λ (x : Answer). x.number) (sym c.in-Ok.ensures.verdict)) in
    let e = c.in-Ok.ensures.place in
    let i = c.in-Ok.i in
    let h : i < count m.steps = omega (arith, e, t.1) in
    record {
      undoable = (undoable-is t.0 i h c.args.plane.now refl, writable-is t.0 i h c.args.index.now refl);
      i_bound = (h, subst (λ (k : ℕ). (undoing a.stride m.plane (entry_at m.steps m.levels k)).number ≡ 0) (sym e) t.2);
    }

pub returns-in-Ok : goal.returns-in-Ok
unfolding undo_of
returns-in-Ok c =
    let a = area (length c.args.plane.now) c.args.stride c.args.width c.args.rows in
    let m = lent c.args.plane.now c.args.steps.now c.args.levels.now c.args.index.now in
    (λ i. (c.finished.ensures i, c.take_out.ensures i))
    ∙ ap (λ (k : ℕ). (done, taken_out a k m)) c.in-Ok.ensures.place
    ∙ ends-ok m (taken_out a (count m.steps - 1) m) c.in-Ok.ensures.verdict
