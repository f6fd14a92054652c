-- `lossless::step_or_undo` meets its contract: the front, what the samples are to gain, and the samples. Assumes nothing.
use mathlib.Core.Path.{refl, sym, ap, ◌∙◌, subst}
use mathlib.Core.List.{List}
use native.Mathlib.Omega.{arith}
use lib.IntN.{ℤ}
use lib.ListN.{length}
use Rattle.std.proofs.lemmas.Result.{err_from_is_err_and}
use Rattle.whole.specs.Sums.{item}
use Rattle.answers.specs.declared.Answer.{Answer}
use Rattle.answers.specs.Answers.{ends}
use Rattle.answers.proofs.Verdicts.{refuses}
use Rattle.wht.specs.Calls.{Sixteen}
use Rattle.lossless.specs.Gains.{gained, samples}
use Rattle.lossless.specs.Bounds.{change}
use Rattle.lossless.specs.Step.{attempt, spot, sample, front}
use Rattle.lossless.proofs.Adding.{change-size}
use Rattle.lossless.proofs.Arguments.{fine-ok, reach-ok, depth_is, stride-is}
use Rattle.lossless.proofs.Calls.{refused-call, passed-call}
use Rattle.lossless.proofs.step_or_undo.Goals as goal

pub returns-in_err-judge : goal.returns-in_err-judge
returns-in_err-judge c =
    let s = attempt c.args.depth c.args.stride c.args.width c.args.row c.args.column c.args.level.now in
    let p = err_from_is_err_and c.from_residual.result c.from_residual.ensures.1 in
    rw (p.1, p.2)
    (refused-call (front (length c.args.plane.now) s) (sample c.args.depth) (spot s.at) c.args.plane.now (item (change c.args.undo c.args.level.now))
    c.in_err-judge.ensures (refuses c.in_err-judge.field-0.0))

pub changes-requires : goal.changes-requires
changes-requires c = ((fine-ok (length c.args.plane.now) (attempt c.args.depth c.args.stride c.args.width c.args.row c.args.column c.args.level.now) c.in_ok-judge.ensures).levels, refl)

pub overflow_mul-row : goal.overflow_mul-row
overflow_mul-row c = omega (arith, reach-ok (length c.args.plane.now) (attempt c.args.depth c.args.stride c.args.width c.args.row c.args.column c.args.level.now) c.in_ok-judge.ensures, c.well_formed.1.0.0)

pub overflow_add-row : goal.overflow_add-row
overflow_add-row c = omega (arith, reach-ok (length c.args.plane.now) (attempt c.args.depth c.args.stride c.args.width c.args.row c.args.column c.args.level.now) c.in_ok-judge.ensures, c.well_formed.1.0.0)

pub gain-requires : goal.gain-requires
gain-requires c =
    let n = length c.args.plane.now in
    let s = attempt c.args.depth c.args.stride c.args.width c.args.row c.args.column c.args.level.now in
    let f = fine-ok n s c.in_ok-judge.ensures in
    ((depth_is s.at f.depths).1, reach-ok (length c.args.plane.now) s c.in_ok-judge.ensures, subst (Sixteen 1048576) (sym c.changes.ensures) (change-size c.args.undo f.levels), (stride-is s.at f.wide).0)

pub returns : goal.returns
returns c =
    let s = attempt c.args.depth c.args.stride c.args.width c.args.row c.args.column c.args.level.now in
    let p = c.args.plane.now in
    c.gain.ensures
    ∙ ap (λ (l : List ℤ). ends (samples (sample s.at.depth) (spot s.at) p (item l)) p (gained (spot s.at) (item l) p)) c.changes.ensures
    ∙ sym (passed-call (front (length p) s) (sample s.at.depth) (spot s.at) p (item (change c.args.undo c.args.level.now)) (ap (λ (a : Answer). a.number) (sym c.in_ok-judge.ensures)))
