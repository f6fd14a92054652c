-- `byteplanes::calls::add` meets its contract: a verdict of Done, the residuals, then the rows. Assumes nothing.
use mathlib.Core.Path.{◌≡◌, refl, sym, ap, ◌∙◌, subst}
use mathlib.Core.Bool.{cond}
use mathlib.Core.List.{List, map}
use Prim.Native.Nat.{ℕ, ◌+◌, ◌*◌, ◌/◌, ◌%◌, ◌≤◌, ◌<◌}
use native.Mathlib.Nat as N
use native.Mathlib.Omega.{arith}
use lib.IntN.{ℤ, pos, nat_abs}
use lib.ListN.{length, get_or}
use Rattle.whole.specs.Sums.{tab}
use Rattle.whole.specs.Grid.{grid_of, in_block, Bounded}
use Rattle.answers.specs.Answers.{done}
use Rattle.answers.proofs.Verdicts.{ends-err, ends-ok}
use Rattle.tables.specs.declared.size.Size.{Size}
use Rattle.passes.specs.Passes.{sh_of}
use Rattle.passes.proofs.Steps.{area}
use Rattle.pixels.specs.Pixels.{residual_at}
use Rattle.verdicts.specs.Verdicts.{w_of, h_of}
use Rattle.pixels.specs.Calls.{added}
use Rattle.verdicts.proofs.Judging.{ready, sides, last_row}
use Rattle.pixels.proofs.Served.{residual-bounded, block_same}
use Rattle.byteplanes.specs.Bytes.{byte_of, bytes_of}
use Rattle.byteplanes.proofs.Accepting.{bytes-done}
use Rattle.byteplanes.proofs.Small.{cut-whole, residual-once, bytes-added}
use Rattle.byteplanes.proofs.calls.add.Goals as goal

-- what the rows' writing asks
abbrev Asked : ℕ → ℕ → ℕ → List ℕ → List ℤ → Type 0
Asked w h stride dst work =
    ((0 < w) × (w ≤ stride) × ((r : ℕ) → r < h → r * stride + w ≤ length dst))
    × ((h * w ≤ length work) × Bounded 4096 w h (grid_of w work))

pub returns-in-Err : goal.returns-in-Err
unfolding bytes_of
returns-in-Err c =
    rw c.from.ensures (ends-err c.args.dst.now (map nat_abs (added c.args.form.rowwise (map pos c.args.dst.now) c.args.stride c.args.coeff.now c.args.txtp c.args.tx c.args.bd)) c.in-Err.reason c.in-Err.ensures)

pub residuals-requires : goal.residuals-requires
residuals-requires c = let p = bytes-done _ _ _ _ _ _ _ c.in-Ok.ensures in (p.kinds.size, ready p.kinds p.fits.long p.coefficients, N.le_refl 1024)

pub size_of-s-requires : goal.size_of-s-requires
size_of-s-requires c = (bytes-done _ _ _ _ _ _ _ c.in-Ok.ensures).kinds.size

pub add_rows-requires : goal.add_rows-requires
add_rows-requires c =
    let p = bytes-done _ _ _ _ _ _ _ c.in-Ok.ensures in
    let w = w_of c.args.tx in
    let h = h_of c.args.tx in
    let work = c.residuals.new.work in
    -- the sides are those that are transformed
    let across = cut-whole w p.narrow.across in
    let down = cut-whole h p.narrow.down in
    let l = sides c.args.tx p.kinds.size in let q_ = subst (λ (q : Size). Asked q.w q.h c.args.stride c.args.dst.now work) (sym c.size_of-s.ensures) (
      (omega (arith, l.wide), p.fits.wide, last_row h c.args.stride w (length c.args.dst.now) p.fits.reach),
      (rw (← across, ← down) (N.le_trans (area h w refl refl) (omega (arith, c.residuals.auto.work))), subst (λ (n : ℕ). Bounded 4096 w n (grid_of w work)) down (subst (λ (n : ℕ). Bounded 4096 n (sh_of c.args.tx) (grid_of n work)) across (residual-bounded c.args.form.rowwise c.args.tx c.args.txtp c.args.bd c.args.coeff.now work c.residuals.ensures p.kinds.to))),
    ) in record {
      w_nonzero = q_.0;
      w_in_bounds = q_.1;
    }

pub returns-in-Ok : goal.returns-in-Ok
unfolding bytes_of
returns-in-Ok c =
    let p = bytes-done c.args.form.strict (length c.args.dst.now) c.args.stride c.args.coeff.now c.args.txtp c.args.tx c.args.bd c.in-Ok.ensures in
    let t = c.args.tx in
    let w = w_of t in
    let h = h_of t in
    let dst = c.args.dst.now in
    let work = c.residuals.new.work in
    let R = residual_at c.args.form.rowwise t c.args.txtp c.args.bd c.args.coeff.now in
    let across = cut-whole w p.narrow.across in
    let down = cut-whole h p.narrow.down in
    -- the work area has the residuals of the block
    let served : (y x : ℕ) → y < h → x < w → grid_of w work y x ≡ R y x =
    λ y x a b. ap (λ n. grid_of n work y x) (sym across) ∙ c.residuals.ensures y x (subst (λ (n : ℕ). y < n) (sym down) a) (subst (λ (n : ℕ). x < n) (sym across) b)
    ∙ sym (residual-once c.args.form.rowwise t c.args.txtp c.args.bd c.args.coeff.now p.narrow.across p.narrow.down y x) in
    rw c.finished.ensures (ap (λ (l : List ℕ). (done, l))
    (c.add_rows.ensures
    ∙ ap (λ (q : Size). tab (length dst) (λ i. cond (in_block c.args.stride q.w q.h i) (byte_of (get_or dst i 0) (grid_of q.w work (i / c.args.stride) (i % c.args.stride))) (get_or dst i 0))) c.size_of-s.ensures
    ∙ block_same c.args.stride w h (length dst) (λ i d. byte_of (get_or dst i 0) d) (λ i. get_or dst i 0) (grid_of w work) R served
    ∙ sym (bytes-added c.args.form.rowwise dst c.args.stride c.args.coeff.now c.args.txtp t c.args.bd p.narrow.eight))
    ∙ ends-ok dst (map nat_abs (added c.args.form.rowwise (map pos dst) c.args.stride c.args.coeff.now c.args.txtp t c.args.bd)) c.in-Ok.ensures)
