-- `wide_rows::rows::row_of_two` meets its contract. Assumes nothing.
use Rattle.std.proofs.Common.{◌≡◌, ◌+◌, ◌∙◌}
use Rattle.wide_rows.specs.Lines.{taps, evens, odds}
use Rattle.wide_rows.proofs.Places.{even-weights, started-row}
use Rattle.wide_rows.proofs.rows.row_of_two.Goals as goal

pub returns : goal.returns
returns c =
    let a = c.two-q in
    let e : taps 2 c.args.m (c.args.s + c.args.s) c.args.t.now ≡ evens c.args.s c.args.t.now c.args.m = even-weights c.args.s c.args.m c.args.t.now in
    let o : taps 2 (c.args.m + c.args.s) (c.args.s + c.args.s) c.args.t.now ≡ odds c.args.s c.args.t.now c.args.m = even-weights c.args.s (c.args.m + c.args.s) c.args.t.now in
    started-row c.args.m c.args.z c.args.d c.args.out.now _ c.args.w.now c.weights-k.result (evens c.args.s c.args.t.now c.args.m) c.weights-h.result (odds c.args.s c.args.t.now c.args.m) a.result.lo a.result.hi
    (c.weights-k.ensures.0 ∙ e) (c.weights-h.ensures.0 ∙ o) a.ensures c.put_two.ensures
