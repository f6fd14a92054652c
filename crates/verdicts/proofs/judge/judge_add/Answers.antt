-- `judge::judge_add` meets its contract: refusals 1 to 4 did not come, so the sides are those of a size. Assumes nothing.
use mathlib.Core.Path.{sym, ap, ◌∙◌, subst}
use lib.ListN.{length}
use Rattle.std.proofs.Common.{rules}
use Rattle.answers.specs.declared.Answer.{Answer}
use Rattle.answers.specs.Answers.{done}
use Rattle.tables.specs.declared.size.Size.{Size}
use Rattle.verdicts.specs.Verdicts.{w_of, h_of, Sides, numbers, on_plane, add_verdict}
use Rattle.verdicts.proofs.Judging.{kinds-passed, kinds-opens, kinds-err, sides}
use Rattle.verdicts.proofs.judge.judge_add.Goals as goal

pub judge_plane-requires : goal.judge_plane-requires
judge_plane-requires c =
    let k = (kinds-passed c.args.tx c.args.txtp c.args.bd done (ap (λ (a : Answer). a.number) (sym c.in_ok-judge_kinds.ensures))).0 in
    (k.to, subst (λ (z : Size). Sides z.w z.h) (sym c.size_of.ensures) (sides c.args.tx k.size))

pub returns-in_err-judge_kinds : goal.returns-in_err-judge_kinds
unfolding add_verdict
returns-in_err-judge_kinds c =
    let h = kinds-err c.args.tx c.args.txtp c.args.bd (on_plane (w_of c.args.tx) (h_of c.args.tx) (length c.args.dst.now) c.args.stride (length c.args.coeff.now) (numbers c.args.strict (w_of c.args.tx) (h_of c.args.tx) c.args.bd c.args.coeff.now c.args.dst.now c.args.stride)) c.in_err-judge_kinds.field-0.0 c.in_err-judge_kinds.ensures in
    search (rules, h)

pub returns : goal.returns
unfolding add_verdict
returns c =
    let k = (kinds-passed c.args.tx c.args.txtp c.args.bd done (ap (λ (a : Answer). a.number) (sym c.in_ok-judge_kinds.ensures))).0 in
    c.judge_plane.ensures ∙ ap (λ (q : Size). on_plane q.w q.h (length c.args.dst.now) c.args.stride (length c.args.coeff.now) (numbers c.args.strict q.w q.h c.args.bd c.args.coeff.now c.args.dst.now c.args.stride)) c.size_of.ensures
    ∙ sym (kinds-opens c.args.tx c.args.txtp c.args.bd _ k)
