-- `pixels::output::settle` meets its contract: the step over the block's part of the work area. Assumes nothing.
use mathlib.Core.Path.{◌≡◌, refl, sym, ap, ◌∙◌, subst}
use Prim.Native.Nat.{◌≤◌}
use native.Mathlib.Nat as N
use native.Mathlib.Omega.{arith}
use Rattle.tables.specs.declared.size.Size.{Size}
use Rattle.tables.specs.Sizes.{size_at, cut}
use Rattle.passes.specs.Passes.{sw_of, sh_of}
use Rattle.passes.proofs.Steps.{area, shifts}
use Rattle.pixels.proofs.output.settle.Goals as goal

pub step-requires : goal.step-requires
step-requires c =
    -- the sides of the work area, by the size number
    let sw : c.cut_of-sw.result ≡ sw_of c.args.tx = c.cut_of-sw.ensures ∙ ap (λ (z : Size). cut z.w) c.size_of-s.ensures in
    let sh : c.cut_of-sh.result ≡ sh_of c.args.tx = c.cut_of-sh.ensures ∙ ap (λ (z : Size). cut z.h) c.size_of-s.ensures in
    rw (sw, sh)
    (N.le_trans (area (size_at c.args.tx).h (size_at c.args.tx).w refl refl) c.requires.2, subst (λ (q : Size). q.second ≤ 16) (sym c.size_of-s.ensures) (shifts c.args.tx c.requires.0).1, omega (arith, c.requires.1), c.requires.3)
