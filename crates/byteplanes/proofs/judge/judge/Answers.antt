-- `byteplanes::judge::judge` meets its contract: refusals 1, 2 and 11, then those of the wide call up to 7. Assumes nothing.
use mathlib.Core.Path.{◌≡◌, sym, ap, ◌∙◌, subst}
use Prim.Native.Nat.{◌*◌, ◌≤◌}
use lib.ListN.{length}
use Rattle.std.proofs.Common.{rules}
use Rattle.answers.specs.declared.Answer.{Answer}
use Rattle.answers.specs.declared.Reason.{Reason}
use Rattle.answers.specs.Answers.{done}
use Rattle.answers.specs.Reasons.{answer_of}
use Rattle.tables.specs.declared.size.Size.{Size}
use Rattle.tables.specs.Sizes.{cut}
use Rattle.verdicts.specs.Verdicts.{w_of, h_of, kinds, Sides, on_plane, coefficients}
use Rattle.verdicts.proofs.Judging.{Kinds, kinds-passed, kinds-err, sides, Reach, plane-passed, plane-opens, plane-err}
use Rattle.byteplanes.specs.Bytes.{narrow, bytes_verdict}
use Rattle.byteplanes.proofs.Accepting.{Narrow, narrow-passed, narrow-opens, narrow-err, onward, bytes-opens}
use Rattle.byteplanes.proofs.judge.judge.Goals as goal

-- a verdict of Done has no number
none : {v : Answer} → done ≡ v → v.number ≡ 0
none e = ap (λ (a : Answer). a.number) (sym e)

pub returns-in_err-judge_narrow : goal.returns-in_err-judge_narrow
unfolding bytes_verdict
returns-in_err-judge_narrow c =
    let h = narrow-err c.args.tx c.args.bd (kinds c.args.tx c.args.txtp c.args.bd (on_plane (w_of c.args.tx) (h_of c.args.tx) c.args.room c.args.stride (length c.args.coeff.now) (coefficients c.args.strict (w_of c.args.tx) (h_of c.args.tx) c.args.bd c.args.coeff.now done))) c.in_err-judge_narrow.field-0.0 c.in_err-judge_narrow.ensures in
    search (rules, h)

pub returns-in_err-judge_kinds : goal.returns-in_err-judge_kinds
unfolding bytes_verdict
returns-in_err-judge_kinds c =
    let n = (narrow-passed c.args.tx c.args.bd done (none c.in_ok-judge_narrow.ensures)).0 in
    let h = kinds-err c.args.tx c.args.txtp c.args.bd (on_plane (w_of c.args.tx) (h_of c.args.tx) c.args.room c.args.stride (length c.args.coeff.now) (coefficients c.args.strict (w_of c.args.tx) (h_of c.args.tx) c.args.bd c.args.coeff.now done)) c.in_err-judge_kinds.field-0.0 c.in_err-judge_kinds.ensures ∙ sym (narrow-opens c.args.tx c.args.bd (kinds c.args.tx c.args.txtp c.args.bd (on_plane (w_of c.args.tx) (h_of c.args.tx) c.args.room c.args.stride (length c.args.coeff.now) (coefficients c.args.strict (w_of c.args.tx) (h_of c.args.tx) c.args.bd c.args.coeff.now done))) n) in
    search (rules, h)

pub size_of-s-requires : goal.size_of-s-requires
size_of-s-requires c = (kinds-passed c.args.tx c.args.txtp c.args.bd done (none c.in_ok-judge_kinds.ensures)).0.size

pub judge_reach-requires : goal.judge_reach-requires
judge_reach-requires c =
    subst (λ (q : Size). Sides q.w q.h) (sym c.size_of-s.ensures) (sides c.args.tx (kinds-passed c.args.tx c.args.txtp c.args.bd done (none c.in_ok-judge_kinds.ensures)).0.size)

pub returns-in_err-judge_reach : goal.returns-in_err-judge_reach
returns-in_err-judge_reach c =
    let n = (narrow-passed c.args.tx c.args.bd done (none c.in_ok-judge_narrow.ensures)).0 in
    let k = (kinds-passed c.args.tx c.args.txtp c.args.bd done (none c.in_ok-judge_kinds.ensures)).0 in
    let w = w_of c.args.tx in
    let h = h_of c.args.tx in
    let r = c.in_err-judge_reach.field-0.0 in
    let e = c.in_err-judge_reach.ensures ∙ ap (λ (q : Size). on_plane q.w q.h c.args.room c.args.stride (length c.args.coeff.now) done) c.size_of-s.ensures in
    let g = plane-err w h c.args.room c.args.stride (length c.args.coeff.now) _ r e ∙ sym (bytes-opens c.args.strict c.args.room c.args.stride c.args.coeff.now c.args.txtp c.args.tx c.args.bd n k) in
    search (rules, g)

pub judge_coefficients-requires : goal.judge_coefficients-requires
judge_coefficients-requires c =
    let k = (kinds-passed c.args.tx c.args.txtp c.args.bd done (none c.in_ok-judge_kinds.ensures)).0 in
    let e = c.in_ok-judge_reach.ensures ∙ ap (λ (q : Size). on_plane q.w q.h c.args.room c.args.stride (length c.args.coeff.now) done) c.size_of-s.ensures in
    let r = (plane-passed (w_of c.args.tx) (h_of c.args.tx) c.args.room c.args.stride (length c.args.coeff.now) done (none e)).0 in
    subst (λ (q : Size). (c.args.bd ≤ 12) × Sides q.w q.h × (cut q.w * cut q.h ≤ length c.args.coeff.now)) (sym c.size_of-s.ensures) (k.to, sides c.args.tx k.size, r.long)

pub returns : goal.returns
returns c =
    let n = (narrow-passed c.args.tx c.args.bd done (none c.in_ok-judge_narrow.ensures)).0 in
    let k = (kinds-passed c.args.tx c.args.txtp c.args.bd done (none c.in_ok-judge_kinds.ensures)).0 in
    let e = c.in_ok-judge_reach.ensures ∙ ap (λ (q : Size). on_plane q.w q.h c.args.room c.args.stride (length c.args.coeff.now) done) c.size_of-s.ensures in
    let r = (plane-passed (w_of c.args.tx) (h_of c.args.tx) c.args.room c.args.stride (length c.args.coeff.now) done (none e)).0 in
    c.judge_coefficients.ensures ∙ ap (λ (q : Size). coefficients c.args.strict q.w q.h c.args.bd c.args.coeff.now done) c.size_of-s.ensures
    ∙ sym (plane-opens (w_of c.args.tx) (h_of c.args.tx) c.args.room c.args.stride (length c.args.coeff.now) _ r)
    ∙ sym (bytes-opens c.args.strict c.args.room c.args.stride c.args.coeff.now c.args.txtp c.args.tx c.args.bd n k)
