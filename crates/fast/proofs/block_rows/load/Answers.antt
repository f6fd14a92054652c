-- `fast::block_rows::load` meets its contract: after x turns the first x numbers of each line have entered. Assumes nothing.
use Rattle.std.proofs.Common.{◌≡◌, ◌+◌, ◌*◌, ◌≤◌, pos, length, get_or, ℕ, ℤ, arith, ap, ◌∙◌, subst}
use native.Mathlib.Nat as N
use Rattle.whole.specs.Sums.{tab}
use Rattle.whole.proofs.Fill.{tab-at}
use Rattle.whole.proofs.Lent.{lent-count, Rewriting, rewrite-more}
use Rattle.passes.specs.Passes.{entry}
use Rattle.fast.proofs.Turned.{loaded-done}
use Rattle.fast.proofs.block_rows.load.Goals as goal

pub overflow_mul-b-in-loop-x : goal.overflow_mul-b-in-loop-x
overflow_mul-b-in-loop-x c = omega (arith, (c.requires.by_index 0 c.loop-x.x c.requires.k_nonzero.0 c.loop-x-test.true).0)

pub overflow_add-b : goal.overflow_add-b
overflow_add-b c = omega (arith, (c.requires.by_index 0 c.loop-x.x c.requires.k_nonzero.0 c.loop-x-test.true).0)

pub load_row-requires-clause-by_index : goal.load_row-requires-clause-by_index
load_row-requires-clause-by_index c =
    let x = c.loop-x.x in
    let inside : x * 16 + c.args.k ≤ length c.loop-x.t = omega (arith, c.requires.k_nonzero.1, c.requires.k_nonzero.2) in
    rw (lent-count (pos 0) c.loop-x.t (x * 16) c.args.k inside) (λ l h. (c.requires.by_index l x h c.loop-x-test.true).0)

pub loop-x-preserved : goal.loop-x-preserved
loop-x-preserved c =
    let x = c.loop-x.x in
    let k = c.args.k in
    let f : ℕ → ℤ = λ l. entry c.args.scale 8 (get_or c.args.coeff.now (c.args.r * c.args.down + x * c.args.across + l * c.args.down) (pos 0)) in
    let end : x * 16 + k ≤ length c.args.t.now = omega (arith, c.requires.k_nonzero.1, c.requires.k_nonzero.2) in
    let inside : x * 16 + k ≤ length c.loop-x.t = omega (arith, end) in
    rewrite-more c.loop-x.invariant c.requires.k_nonzero.1 end _ (N.add-sub_cancel_left (x * 16) k) c.load_row.new.row c.load_row.auto.row
    (λ l h. ap (λ z. get_or z l (pos 0)) c.load_row.ensures ∙ ap (λ m. get_or (tab m f) l (pos 0)) (lent-count (pos 0) c.loop-x.t (x * 16) k inside) ∙ tab-at (pos 0) k f l h)

pub returns : goal.returns
returns c =
    let f : ℕ → ℕ → ℤ = λ y l. entry c.args.scale 8 (get_or c.args.coeff.now (c.args.r * c.args.down + y * c.args.across + l * c.args.down) (pos 0)) in
    let e : c.loop-x.x ≡ c.args.live = omega arith in
    loaded-done {f = λ l y. f y l} (subst (λ (n : ℕ). Rewriting (pos 0) 16 c.args.k f c.args.t.now c.loop-x.t n) e c.loop-x.invariant) c.requires.k_nonzero.1
