-- `bytesteps::step_or_undo` meets its contract: the depth, then the wide call's front, what the bytes are to gain, and the bytes. Assumes nothing.
use mathlib.Core.Path.{◌≡◌, refl, sym, ap, ◌∙◌, subst}
use mathlib.Core.List.{List, map}
use Prim.Native.Nat.{ℕ}
use native.Mathlib.Omega.{arith}
use borrow.Author.Tests.{eq-eqb, ne_eqb}
use lib.IntN.{ℤ, pos, nat_abs}
use lib.ListN.{length, length-map}
use Rattle.std.proofs.lemmas.Result.{err_from_is_err_and}
use Rattle.whole.specs.Sums.{item}
use Rattle.answers.specs.declared.Answer.{Answer}
use Rattle.answers.specs.Answers.{ends}
use Rattle.answers.specs.Reasons.{answer_of}
use Rattle.answers.proofs.Verdicts.{refuses}
use Rattle.wht.specs.Calls.{Sixteen}
use Rattle.octets.proofs.Lists.{numbers-back}
use Rattle.lossless.specs.Gains.{gained, samples}
use Rattle.lossless.specs.Bounds.{change}
use Rattle.lossless.specs.Step.{Step, attempt, spot, sample, front}
use Rattle.lossless.proofs.Adding.{change-size}
use Rattle.lossless.proofs.Arguments.{fine-ok, reach-ok, stride-is}
use Rattle.lossless.proofs.Calls.{refused-call, passed-call}
use Rattle.bytesteps.specs.Steps.{read_back}
use Rattle.bytesteps.proofs.Sums.{read-ends}
use Rattle.bytesteps.proofs.step_or_undo.Goals as goal

-- the front of the plane of the same values
wide : {a : Answer} (b : List ℕ) (s : Step) → a ≡ front (length b) s → a ≡ front (length (map pos b)) s
wide b s e = e ∙ ap (λ (n : ℕ). front n s) (sym (length-map b pos))

pub returns-then-deep : goal.returns-then-deep
returns-then-deep c = rw (ne_eqb c.args.depth 8 c.if-deep.true) refl

pub returns-in_err-judge : goal.returns-in_err-judge
returns-in_err-judge c =
    let s = attempt c.args.depth c.args.stride c.args.width c.args.row c.args.column c.args.level.now in
    let b = c.args.plane.now in
    let r = c.in_err-judge.field-0.0 in
    let p = err_from_is_err_and c.from_residual.result c.from_residual.ensures.1 in
    rw (p.1, p.2, eq-eqb c.args.depth 8 c.if-deep.false)
    (ap (λ (l : List ℕ). (answer_of r, l)) (sym (numbers-back b))
    ∙ ap read_back (refused-call (front (length (map pos b)) s) (sample c.args.depth) (spot s.at) (map pos b) (item (change c.args.undo c.args.level.now)) (wide b s c.in_err-judge.ensures) (refuses r)))

pub changes-requires : goal.changes-requires
changes-requires c = ((fine-ok (length c.args.plane.now) (attempt c.args.depth c.args.stride c.args.width c.args.row c.args.column c.args.level.now) c.in_ok-judge.ensures).levels, refl)

pub overflow_mul-row : goal.overflow_mul-row
overflow_mul-row c = omega (arith, reach-ok (length c.args.plane.now) (attempt c.args.depth c.args.stride c.args.width c.args.row c.args.column c.args.level.now) c.in_ok-judge.ensures, c.well_formed.1.0.0)

pub overflow_add-row : goal.overflow_add-row
overflow_add-row c = omega (arith, reach-ok (length c.args.plane.now) (attempt c.args.depth c.args.stride c.args.width c.args.row c.args.column c.args.level.now) c.in_ok-judge.ensures, c.well_formed.1.0.0)

pub gain-requires : goal.gain-requires
gain-requires c =
    let s = attempt c.args.depth c.args.stride c.args.width c.args.row c.args.column c.args.level.now in
    let f = fine-ok (length c.args.plane.now) s c.in_ok-judge.ensures in
    (reach-ok (length c.args.plane.now) s c.in_ok-judge.ensures, subst (Sixteen 1048576) (sym c.changes.ensures) (change-size c.args.undo f.levels), (stride-is s.at f.wide).0)

pub returns : goal.returns
returns c =
    let s = attempt c.args.depth c.args.stride c.args.width c.args.row c.args.column c.args.level.now in
    let p = c.args.plane.now in
    let w = map pos p in
    let at = spot s.at in
    let g = item (change c.args.undo c.args.level.now) in
    rw (eq-eqb c.args.depth 8 c.if-deep.false)
    (c.gain.ensures
    ∙ ap (λ (l : List ℤ). ends (samples (sample 8) at w (item l)) p (map nat_abs (gained at (item l) w))) c.changes.ensures
    ∙ ap (λ (d : ℕ). ends (samples (sample d) at w g) p (map nat_abs (gained at g w))) (sym c.if-deep.false)
    ∙ sym (read-ends (samples (sample c.args.depth) at w g) p (gained at g w))
    ∙ ap read_back (sym (passed-call (front (length w) s) (sample c.args.depth) at w g (ap (λ (a : Answer). a.number) (sym (wide p s c.in_ok-judge.ensures))))))
