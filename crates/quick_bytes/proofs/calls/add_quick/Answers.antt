-- `quick_bytes::calls::add_quick` meets its contract: a verdict of Done, then the narrow passes. Assumes nothing.
use mathlib.Core.Path.{sym, ap, ◌∙◌, subst}
use mathlib.Core.List.{List, map}
use Prim.Native.Nat.{ℕ, ◌≤◌}
use native.Mathlib.Omega.{arith}
use lib.IntN.{pos, nat_abs}
use lib.ListN.{length}
use Rattle.answers.specs.Answers.{done}
use Rattle.answers.proofs.Verdicts.{ends-err, ends-ok}
use Rattle.tables.specs.Sizes.{size_at}
use Rattle.tables.specs.declared.size.Size.{Size}
use Rattle.passes.proofs.Steps.{shifts}
use Rattle.verdicts.specs.Verdicts.{w_of, h_of}
use Rattle.verdicts.proofs.Judging.{last_row}
use Rattle.fast.specs.Gains.{residual8, Narrow}
use Rattle.pixels.specs.Calls.{added}
use Rattle.quick.proofs.Accepted.{quick-narrow, quick-added}
use Rattle.byteplanes.specs.Bytes.{bytes_of}
use Rattle.byteplanes.proofs.Accepting.{bytes-done}
use Rattle.quick_bytes.specs.Held.{Held, bytes_by}
use Rattle.quick_bytes.proofs.Reached.{bytes_read}
use Rattle.quick_bytes.proofs.calls.add_quick.Goals as goal

pub returns-in-Err : goal.returns-in-Err
unfolding bytes_of
returns-in-Err c =
    rw c.from.ensures (ends-err c.args.dst.now (map nat_abs (added c.args.form.rowwise (map pos c.args.dst.now) c.args.stride c.args.coeff.now c.args.txtp c.args.tx c.args.bd)) c.in-Err.reason c.in-Err.ensures)

pub size_of-s-requires : goal.size_of-s-requires
size_of-s-requires c = c.requires.size

pub add_block-requires : goal.add_block-requires
add_block-requires c =
    let p = bytes-done _ _ _ _ _ _ _ c.in-Ok.ensures in
    let held : Held 0 c.args.stride (w_of c.args.tx) (h_of c.args.tx) c.args.dst.now = record {
      wide = p.fits.wide;
      inside = λ y l. omega (arith, last_row (h_of c.args.tx) c.args.stride (w_of c.args.tx) (length c.args.dst.now) p.fits.reach y l);
    } in
    subst (λ (q : Size). Narrow q.w q.h q.first c.args.coeff.now × (q.second ≤ 16) × Held 0 c.args.stride q.w q.h c.args.dst.now × (q.w ≤ 32) × (q.h ≤ 32)) (sym c.size_of-s.ensures)
    (quick-narrow c.requires p.fits.long p.coefficients, (shifts c.args.tx c.requires.size).1, held, p.narrow.across, p.narrow.down)

pub returns-in-Ok : goal.returns-in-Ok
unfolding bytes_of
returns-in-Ok c =
    let dst = c.args.dst.now in
    let w = w_of c.args.tx in
    let h = h_of c.args.tx in
    rw c.finished.ensures (ap (λ (l : List ℕ). (done, l))
    (c.add_block.ensures
    ∙ ap (λ (q : Size). bytes_by q.w q.h (residual8 c.args.form.rowwise q.w q.h q.first q.second c.args.coeff.now) dst c.args.stride) c.size_of-s.ensures
    ∙ bytes_read w h (residual8 c.args.form.rowwise w h (size_at c.args.tx).first (size_at c.args.tx).second c.args.coeff.now) dst c.args.stride
    ∙ ap (map nat_abs) (quick-added c.args.form.rowwise (map pos dst) c.args.stride c.args.coeff.now c.args.txtp c.args.tx c.args.bd c.requires))
    ∙ ends-ok dst (map nat_abs (added c.args.form.rowwise (map pos dst) c.args.stride c.args.coeff.now c.args.txtp c.args.tx c.args.bd)) c.in-Ok.ensures)
