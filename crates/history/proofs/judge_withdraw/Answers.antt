-- `history::judge_withdraw` meets its contract: 5 and 12, 13 where the number doesn't remain, 8 and 10, then 13 where a later step shares a sample. Assumes nothing.
use mathlib.Core.Path.{◌≡◌, refl, sym, ap, ◌∙◌}
use mathlib.Core.List.{List}
use Prim.Native.Nat.{ℕ, suc, ◌<◌}
use native.Mathlib.Omega.{arith}
use lib.Dec.{eqb}
use lib.ListN.{length}
use Rattle.std.proofs.lemmas.Result.{err_from_is_err_and}
use Rattle.remain.specs.Remaining.{count, number_at, found}
use Rattle.remain.proofs.Finds.{last-most}
use Rattle.keeping.specs.Range.{area}
use Rattle.history.specs.Calls.{lent}
use Rattle.history.proofs.Judged.{withdraw-first, withdraw-gone, spot-is, withdraw-err, withdraw-last}
use Rattle.history.proofs.Parts.{judged-keeps}
use Rattle.history.proofs.Taking.{undoable-is}
use Rattle.history.proofs.judge_withdraw.Goals as goal

-- the step that was found, in the whole list
there : (s : List ℕ) (q : ℕ) {k n : ℕ} → k ≡ found s q n → n ≡ count s → k ≡ found s q (count s)
there s q e w = e ∙ ap (found s q) w

below : (s : List ℕ) (q i : ℕ) → suc i ≡ found s q (count s) → i < count s
below s q i e = omega (arith, e, last-most (λ k. eqb (number_at s k) q) (count s))

pub returns-in_err-judge_kept-clause-verdict : goal.returns-in_err-judge_kept-clause-verdict
returns-in_err-judge_kept-clause-verdict c =
    let a = area (length c.args.plane.now) c.args.stride c.args.width c.args.rows in
    let m = lent c.args.plane.now c.args.steps.now c.args.levels.now c.args.index.now in
    let p = err_from_is_err_and c.from_residual.result c.from_residual.ensures.1 in
    rw (p.1, p.2)
    (withdraw-first a m c.args.number c.in_err-judge_kept.field-0.0 c.in_err-judge_kept.ensures)

pub word-n-requires : goal.word-n-requires
word-n-requires c =
    let a = area (length c.args.plane.now) c.args.stride c.args.width c.args.rows in
    let m = lent c.args.plane.now c.args.steps.now c.args.levels.now c.args.index.now in
    omega (arith, (judged-keeps a m.steps m.levels (length m.index) c.in_ok-judge_kept.ensures refl).steps)

pub found-requires : goal.found-requires
found-requires c =
    let a = area (length c.args.plane.now) c.args.stride c.args.width c.args.rows in
    let m = lent c.args.plane.now c.args.steps.now c.args.levels.now c.args.index.now in
    let k = judged-keeps a m.steps m.levels (length m.index) c.in_ok-judge_kept.ensures refl in
    (omega (arith, c.word-n.ensures, k.most), k.steps)

pub returns-in_default-clause-verdict : goal.returns-in_default-clause-verdict
returns-in_default-clause-verdict c =
    let a = area (length c.args.plane.now) c.args.stride c.args.width c.args.rows in
    let m = lent c.args.plane.now c.args.steps.now c.args.levels.now c.args.index.now in
    withdraw-gone a m c.args.number c.in_ok-judge_kept.ensures (sym (there c.args.steps.now c.args.number c.in_default.ensures c.word-n.ensures))

pub judge_out-requires : goal.judge_out-requires
judge_out-requires c =
    let a = area (length c.args.plane.now) c.args.stride c.args.width c.args.rows in
    let m = lent c.args.plane.now c.args.steps.now c.args.levels.now c.args.index.now in
    undoable-is (judged-keeps a m.steps m.levels (length m.index) c.in_ok-judge_kept.ensures refl) c.in-Some.i (below c.args.steps.now c.args.number c.in-Some.i (there c.args.steps.now c.args.number c.in-Some.ensures c.word-n.ensures)) c.args.plane.now refl

pub returns-in_err-judge_out-clause-verdict : goal.returns-in_err-judge_out-clause-verdict
returns-in_err-judge_out-clause-verdict c =
    let a = area (length c.args.plane.now) c.args.stride c.args.width c.args.rows in
    let m = lent c.args.plane.now c.args.steps.now c.args.levels.now c.args.index.now in
    let p = err_from_is_err_and c.from_residual-in_err-judge_out.result c.from_residual-in_err-judge_out.ensures.1 in
    rw (p.1, p.2)
    (withdraw-err a m c.args.number c.in_ok-judge_kept.ensures c.in-Some.i (there c.args.steps.now c.args.number c.in-Some.ensures c.word-n.ensures) c.in_err-judge_out.field-0.0 c.in_err-judge_out.ensures)

pub overlapped-requires : goal.overlapped-requires
overlapped-requires c =
    let a = area (length c.args.plane.now) c.args.stride c.args.width c.args.rows in
    let m = lent c.args.plane.now c.args.steps.now c.args.levels.now c.args.index.now in
    let k = judged-keeps a m.steps m.levels (length m.index) c.in_ok-judge_kept.ensures refl in
    (omega (arith, below c.args.steps.now c.args.number c.in-Some.i (there c.args.steps.now c.args.number c.in-Some.ensures c.word-n.ensures), k.most), k.most, k.steps)

pub returns-in_err-overlapped-clause-verdict : goal.returns-in_err-overlapped-clause-verdict
returns-in_err-overlapped-clause-verdict c =
    let a = area (length c.args.plane.now) c.args.stride c.args.width c.args.rows in
    let m = lent c.args.plane.now c.args.steps.now c.args.levels.now c.args.index.now in
    let p = err_from_is_err_and c.from_residual-in_err-overlapped.result c.from_residual-in_err-overlapped.ensures.1 in
    rw (p.1, p.2)
    (c.in_err-overlapped.ensures ∙ sym (withdraw-last a m c.args.number c.in_ok-judge_kept.ensures c.in-Some.i (there c.args.steps.now c.args.number c.in-Some.ensures c.word-n.ensures) c.in_ok-judge_out.ensures))

pub returns-clause-verdict : goal.returns-clause-verdict
returns-clause-verdict c =
    let a = area (length c.args.plane.now) c.args.stride c.args.width c.args.rows in
    let m = lent c.args.plane.now c.args.steps.now c.args.levels.now c.args.index.now in
    c.in_ok-overlapped.ensures ∙ sym (withdraw-last a m c.args.number c.in_ok-judge_kept.ensures c.in-Some.i (there c.args.steps.now c.args.number c.in-Some.ensures c.word-n.ensures) c.in_ok-judge_out.ensures)

pub returns-clause-place : goal.returns-clause-place
returns-clause-place c =
    let a = area (length c.args.plane.now) c.args.stride c.args.width c.args.rows in
    let m = lent c.args.plane.now c.args.steps.now c.args.levels.now c.args.index.now in
    spot-is a m c.args.number c.in_ok-judge_kept.ensures c.in-Some.i (there c.args.steps.now c.args.number c.in-Some.ensures c.word-n.ensures)
