-- `history::judge_undo` meets its contract: 5 and 12, 13 where none remains, then 8 and 10 of the newest. Assumes nothing.
use mathlib.Core.Path.{refl, sym, ap, ◌∙◌}
use Prim.Native.Nat.{◌-◌}
use native.Mathlib.Omega.{arith}
use lib.ListN.{length}
use Rattle.std.proofs.lemmas.Result.{err_from_is_err_and}
use Rattle.keeping.specs.Range.{area}
use Rattle.history.specs.Calls.{lent}
use Rattle.history.proofs.Judged.{undo-at, undo-err, undo-none, undo-newest}
use Rattle.history.proofs.Parts.{judged-keeps}
use Rattle.history.proofs.Taking.{undoable-is}
use Rattle.history.proofs.judge_undo.Goals as goal

pub returns-in_err-judge_kept-clause-verdict : goal.returns-in_err-judge_kept-clause-verdict
returns-in_err-judge_kept-clause-verdict c =
    let a = area (length c.args.plane.now) c.args.stride c.args.width c.args.rows in
    let m = lent c.args.plane.now c.args.steps.now c.args.levels.now c.args.index.now in
    let p = err_from_is_err_and c.from_residual.result c.from_residual.ensures.1 in
    rw (p.1, p.2)
    (undo-err a m c.in_err-judge_kept.field-0.0 c.in_err-judge_kept.ensures)

pub word-n-requires : goal.word-n-requires
word-n-requires c =
    let a = area (length c.args.plane.now) c.args.stride c.args.width c.args.rows in
    let m = lent c.args.plane.now c.args.steps.now c.args.levels.now c.args.index.now in
    omega (arith, (judged-keeps a m.steps m.levels (length m.index) c.in_ok-judge_kept.ensures refl).steps)

pub returns-then-n-eq0-clause-verdict : goal.returns-then-n-eq0-clause-verdict
returns-then-n-eq0-clause-verdict c =
    let a = area (length c.args.plane.now) c.args.stride c.args.width c.args.rows in
    let m = lent c.args.plane.now c.args.steps.now c.args.levels.now c.args.index.now in
    undo-none a m c.in_ok-judge_kept.ensures (omega (arith, c.word-n.ensures, c.if-n-eq0.true))

pub judge_out-requires : goal.judge_out-requires
judge_out-requires c =
    let a = area (length c.args.plane.now) c.args.stride c.args.width c.args.rows in
    let m = lent c.args.plane.now c.args.steps.now c.args.levels.now c.args.index.now in
    undoable-is (judged-keeps a m.steps m.levels (length m.index) c.in_ok-judge_kept.ensures refl) (c.word-n.result - 1) (omega (arith, c.word-n.ensures, c.if-n-eq0.false)) c.args.plane.now refl

pub returns-in_err-judge_out-clause-verdict : goal.returns-in_err-judge_out-clause-verdict
returns-in_err-judge_out-clause-verdict c =
    let a = area (length c.args.plane.now) c.args.stride c.args.width c.args.rows in
    let m = lent c.args.plane.now c.args.steps.now c.args.levels.now c.args.index.now in
    let p = err_from_is_err_and c.from_residual-in_err-judge_out.result c.from_residual-in_err-judge_out.ensures.1 in
    rw (p.1, p.2)
    (c.in_err-judge_out.ensures ∙ ap (λ k. undo-at a m (k - 1)) c.word-n.ensures ∙ sym (undo-newest a m c.in_ok-judge_kept.ensures (omega (arith, c.word-n.ensures, c.if-n-eq0.false))))

pub returns-clause-verdict : goal.returns-clause-verdict
returns-clause-verdict c =
    let a = area (length c.args.plane.now) c.args.stride c.args.width c.args.rows in
    let m = lent c.args.plane.now c.args.steps.now c.args.levels.now c.args.index.now in
    c.in_ok-judge_out.ensures ∙ ap (λ k. undo-at a m (k - 1)) c.word-n.ensures ∙ sym (undo-newest a m c.in_ok-judge_kept.ensures (omega (arith, c.word-n.ensures, c.if-n-eq0.false)))

pub returns-clause-place : goal.returns-clause-place
returns-clause-place c =
    ap (λ k. k - 1) c.word-n.ensures
