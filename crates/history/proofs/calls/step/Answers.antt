-- `history::calls::step` meets its contract: the samples gain, and the step is put at the end. Assumes nothing.
use mathlib.Core.Path.{refl, sym, ap, ◌∙◌}
use mathlib.Core.List.{List}
use native.Mathlib.Omega.{arith}
use native.Mathlib.Nat.{le_trans}
use lib.IntN.{ℤ}
use lib.ListN.{length}
use Rattle.std.proofs.lemmas.Result.{err_from_is_err_and}
use Rattle.whole.specs.Sums.{item}
use Rattle.answers.specs.Answers.{done}
use Rattle.answers.proofs.Verdicts.{ends-err, ends-ok}
use Rattle.lossless.specs.Gains.{gained, samples}
use Rattle.lossless.specs.Step.{sample}
use Rattle.keeping.specs.Range.{area}
use Rattle.keeping.proofs.Facts.{start_small}
use Rattle.history.specs.Calls.{lent, spots, stepped}
use Rattle.history.proofs.Stepping.{samples-err, opened, roomy, fronts, shape, gains-small, addable}
use Rattle.history.proofs.calls.step.Goals as goal

pub overflow_mul-start : goal.overflow_mul-start
overflow_mul-start c =
    let a = area (length c.args.plane.now) c.args.stride c.args.width c.args.rows in
    let m = lent c.args.plane.now c.args.s.now c.args.l.now c.args.index.now in
    let b = start_small (shape a c.args.depth c.args.row c.args.column c.args.level.now m c.requires) (fronts a c.args.depth c.args.row c.args.column c.args.level.now m c.requires).stand in
    record { fits = omega (arith, b.0) }

pub overflow_add-start : goal.overflow_add-start
overflow_add-start c =
    let a = area (length c.args.plane.now) c.args.stride c.args.width c.args.rows in
    let m = lent c.args.plane.now c.args.s.now c.args.l.now c.args.index.now in
    let b = start_small (shape a c.args.depth c.args.row c.args.column c.args.level.now m c.requires) (fronts a c.args.depth c.args.row c.args.column c.args.level.now m c.requires).stand in
    record { fits = omega (arith, b.0, b.1) }

pub changes-requires : goal.changes-requires
changes-requires c =
    let a = area (length c.args.plane.now) c.args.stride c.args.width c.args.rows in
    let m = lent c.args.plane.now c.args.s.now c.args.l.now c.args.index.now in
    ((fronts a c.args.depth c.args.row c.args.column c.args.level.now m c.requires).sixteen, refl)

pub judge-requires : goal.judge-requires
judge-requires c =
    let a = area (length c.args.plane.now) c.args.stride c.args.width c.args.rows in
    let m = lent c.args.plane.now c.args.s.now c.args.l.now c.args.index.now in
    let f = fronts a c.args.depth c.args.row c.args.column c.args.level.now m c.requires in
    (f.deep.1, f.stand.reach, gains-small a c.args.depth c.args.row c.args.column c.args.level.now m c.requires c.changes.new.out c.changes.ensures)

pub returns-in_err-judge : goal.returns-in_err-judge
returns-in_err-judge c =
    let a = area (length c.args.plane.now) c.args.stride c.args.width c.args.rows in
    let m = lent c.args.plane.now c.args.s.now c.args.l.now c.args.index.now in
    let p = err_from_is_err_and c.from_residual.result c.from_residual.ensures.1 in
    rw (p.1, p.2) (ends-err m (stepped a c.args.depth c.args.row c.args.column c.args.level.now m) c.in_err-judge.field-0.0 (samples-err a c.args.depth c.args.row c.args.column c.args.level.now m c.in_err-judge.field-0.0 (c.in_err-judge.ensures ∙ ap (λ (g : List ℤ). samples (sample c.args.depth) (spots c.args.stride c.args.row c.args.column) c.args.plane.now (item g)) c.changes.ensures)))

pub full-requires : goal.full-requires
full-requires c =
    let a = area (length c.args.plane.now) c.args.stride c.args.width c.args.rows in
    let m = lent c.args.plane.now c.args.s.now c.args.l.now c.args.index.now in
    let k = (fronts a c.args.depth c.args.row c.args.column c.args.level.now m c.requires).keeping in
    (k.most, k.steps)

pub returns-in_err-full : goal.returns-in_err-full
returns-in_err-full c =
    let a = area (length c.args.plane.now) c.args.stride c.args.width c.args.rows in
    let m = lent c.args.plane.now c.args.s.now c.args.l.now c.args.index.now in
    let p = err_from_is_err_and c.from_residual-in_err-full.result c.from_residual-in_err-full.ensures.1 in
    rw (p.1, p.2) (ends-err m (stepped a c.args.depth c.args.row c.args.column c.args.level.now m) c.in_err-full.field-0.0 (c.in_err-full.ensures ∙ sym (opened a c.args.depth c.args.row c.args.column c.args.level.now m (c.in_ok-judge.ensures ∙ ap (λ (g : List ℤ). samples (sample c.args.depth) (spots c.args.stride c.args.row c.args.column) c.args.plane.now (item g)) c.changes.ensures))))

pub add-requires : goal.add-requires
add-requires c =
    let a = area (length c.args.plane.now) c.args.stride c.args.width c.args.rows in
    let m = lent c.args.plane.now c.args.s.now c.args.l.now c.args.index.now in
    addable a c.args.depth c.args.row c.args.column c.args.level.now m c.requires c.changes.new.out c.changes.ensures refl (c.in_ok-judge.ensures ∙ ap (λ (g : List ℤ). samples (sample c.args.depth) (spots c.args.stride c.args.row c.args.column) c.args.plane.now (item g)) c.changes.ensures)

pub append-requires : goal.append-requires
append-requires c =
    let a = area (length c.args.plane.now) c.args.stride c.args.width c.args.rows in
    let m = lent c.args.plane.now c.args.s.now c.args.l.now c.args.index.now in
    let f = fronts a c.args.depth c.args.row c.args.column c.args.level.now m c.requires in
    let k = f.keeping in
    let h = shape a c.args.depth c.args.row c.args.column c.args.level.now m c.requires in
    record {
      writable = (record { steps = k.steps; levels = k.levels; cells = k.cells; most = k.most; wide = le_trans h.width_most h.stride_most; high = h.rows_most; right = f.stand.right; low = f.stand.low }, f.sixteen.count);
      s_bound = roomy a c.args.depth c.args.row c.args.column c.args.level.now m c.in_ok-full.ensures;
    }

pub returns : goal.returns
returns c =
    let a = area (length c.args.plane.now) c.args.stride c.args.width c.args.rows in
    let m = lent c.args.plane.now c.args.s.now c.args.l.now c.args.index.now in
    let w = c.append.ensures in
    let p = c.add.ensures ∙ ap (λ (g : List ℤ). gained (spots c.args.stride c.args.row c.args.column) (item g) c.args.plane.now) c.changes.ensures in
    (λ i. (done, lent (p i) (w.0 i) (w.1 i) (w.2 i)))
    ∙ ends-ok m (stepped a c.args.depth c.args.row c.args.column c.args.level.now m) (c.in_ok-full.ensures ∙ sym (opened a c.args.depth c.args.row c.args.column c.args.level.now m (c.in_ok-judge.ensures ∙ ap (λ (g : List ℤ). samples (sample c.args.depth) (spots c.args.stride c.args.row c.args.column) c.args.plane.now (item g)) c.changes.ensures)))
