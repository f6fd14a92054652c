-- `fast::block_rows::rows` meets its contract: after some turns the first r rows stand in the work area. Assumes nothing.
use Rattle.std.proofs.Common.{◌≡◌, ◌+◌, ◌≤◌, ℕ, ℤ, min, arith, subst, List}
use Rattle.passes.specs.Passes.{loaded}
use Rattle.fast.specs.Groups.{Grouped, after_rows}
use Rattle.fast.proofs.Turned.{group-none, group-then}
use Rattle.fast.proofs.block_rows.rows.Goals as goal

-- a group more
on : {sw sh r m k n : ℕ} {f : ℕ → ℕ → ℤ} {old mid new : List ℤ} → m ≡ r → r + k ≡ n → Grouped sw sh 0 m f old mid → Grouped sw sh r k (λ l x. f (r + l) x) mid new → r + k ≤ sh → Grouped sw sh 0 n f old new
on {sw} {sh} {f = f} {old} {mid} {new} e d p q fit =
    subst (λ (n : ℕ). Grouped sw sh 0 n f old new) d (group-then {f = f} (subst (λ (n : ℕ). Grouped sw sh 0 n f old mid) e p) q fit)

pub loop-r-init : goal.loop-r-init
loop-r-init c =
    let f : ℕ → ℕ → ℤ = after_rows c.args.sw c.args.shift (loaded c.args.rowwise c.args.scale 8 c.args.sw c.args.sh c.args.coeff.now) in
    let e : 0 ≡ min 0 c.args.rows = omega arith in
    record {
      done = subst (λ (n : ℕ). Grouped c.args.sw c.args.sh 0 n f c.args.work.now c.args.work.now) e (group-none c.args.sw c.args.sh f c.args.work.now);
      still = c.requires.sh_in_bounds.2;
    }

pub group-requires-clause-sh_in_bounds : goal.group-requires-clause-sh_in_bounds
group-requires-clause-sh_in_bounds c = (c.requires.sh_in_bounds.0, c.requires.sh_in_bounds.1, c.loop-r.invariant.still, c.requires.sh_in_bounds.3)

pub loop-r-preserved : goal.loop-r-preserved
loop-r-preserved c =
    let f : ℕ → ℕ → ℤ = after_rows c.args.sw c.args.shift (loaded c.args.rowwise c.args.scale 8 c.args.sw c.args.sh c.args.coeff.now) in
    let e : min c.loop-r.r c.args.rows ≡ c.loop-r.r = omega arith in
    let d : c.loop-r.r + c.min-k.result ≡ min (c.loop-r.r + 16) c.args.rows = omega arith in
    let fit : c.loop-r.r + c.min-k.result ≤ c.args.sh = omega (arith, c.requires.sized.2) in
    record { done = on {f = f} e d c.loop-r.invariant.done c.group.ensures.0 fit; still = c.group.ensures.1 }

pub returns : goal.returns
returns c =
    let f : ℕ → ℕ → ℤ = after_rows c.args.sw c.args.shift (loaded c.args.rowwise c.args.scale 8 c.args.sw c.args.sh c.args.coeff.now) in
    let e : min c.loop-r.r c.args.rows ≡ c.args.rows = omega arith in
    subst (λ (n : ℕ). Grouped c.args.sw c.args.sh 0 n f c.args.work.now c.loop-r.work) e c.loop-r.invariant.done

pub returns-2 : goal.returns-2
returns-2 c =
    let f : ℕ → ℕ → ℤ = after_rows c.args.sw c.args.shift (loaded c.args.rowwise c.args.scale 8 c.args.sw c.args.sh c.args.coeff.now) in
    let e : min c.loop-r.r c.args.rows ≡ c.loop-r.r = omega arith in
    let d : c.loop-r.r + c.min-k.result ≡ c.args.rows = omega arith in
    let fit : c.loop-r.r + c.min-k.result ≤ c.args.sh = omega (arith, c.requires.sized.2) in
    on {f = f} e d c.loop-r.invariant.done c.group.ensures.0 fit
