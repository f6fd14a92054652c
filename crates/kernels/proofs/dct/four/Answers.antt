-- `kernels::dct::four` meets its contract, by reflection of its straight-line code. Assumes nothing.
use mathlib.Core.Path.{◌∙◌}
use mathlib.Core.List.{List, [], ◌∷◌}
use Prim.Native.Nat.{ℕ, ◌^◌}
use lib.Dec.{T}
use lib.IntN.{ℤ, pos}
use mir.Syntax.{w32}
use mir.Val.{SFits}
use Rattle.whole.proofs.Fill.{set4}
use Rattle.whole.proofs.Machine.{Mx, var, con, ◌⊕◌, ◌⊖◌, ◌⊗◌, raw, safe, within-fits, are-dots}
use Rattle.kernels.proofs.dct.four.Goals as goal

abbrev times : ℕ → ℕ → Mx
times i k = var i ⊗ con (pos k)

abbrev a0 : Mx
a0 = times 0 64 ⊕ times 2 64

abbrev a1 : Mx
a1 = times 0 64 ⊖ times 2 64

abbrev b0 : Mx
b0 = times 1 83 ⊕ times 3 35

abbrev b1 : Mx
b1 = times 1 35 ⊖ times 3 83

abbrev xs : goal.After-c3-1 → List ℤ
xs c = c.args.c.now

fits : (c : goal.After-c3-1) (e : Mx) → T (safe w32 (λ _. 2 ^ 19) e) → SFits w32 (raw w32 e (xs c))
fits c e t = within-fits w32 (2 ^ 19) (xs c) c.requires.1 e t

pub overflow_mul-a0 : goal.overflow_mul-a0
overflow_mul-a0 c = fits c (times 0 64) tt

pub overflow_mul-a0-2 : goal.overflow_mul-a0-2
overflow_mul-a0-2 c = fits c (times 2 64) tt

pub overflow_add-a0 : goal.overflow_add-a0
overflow_add-a0 c = fits c a0 tt

pub overflow_mul-a1 : goal.overflow_mul-a1
overflow_mul-a1 c = fits c (times 0 64) tt

pub overflow_mul-a1-2 : goal.overflow_mul-a1-2
overflow_mul-a1-2 c = fits c (times 2 64) tt

pub overflow_sub-a1 : goal.overflow_sub-a1
overflow_sub-a1 c = fits c a1 tt

pub overflow_mul-b0 : goal.overflow_mul-b0
overflow_mul-b0 c = fits c (times 1 83) tt

pub overflow_mul-b0-2 : goal.overflow_mul-b0-2
overflow_mul-b0-2 c = fits c (times 3 35) tt

pub overflow_add-b0 : goal.overflow_add-b0
overflow_add-b0 c = fits c b0 tt

pub overflow_mul-b1 : goal.overflow_mul-b1
overflow_mul-b1 c = fits c (times 1 35) tt

pub overflow_mul-b1-2 : goal.overflow_mul-b1-2
overflow_mul-b1-2 c = fits c (times 3 83) tt

pub overflow_sub-b1 : goal.overflow_sub-b1
overflow_sub-b1 c = fits c b1 tt

pub overflow_add-c : goal.overflow_add-c
overflow_add-c c = fits c (a0 ⊕ b0) tt

pub overflow_add-c-2 : goal.overflow_add-c-2
overflow_add-c-2 c = fits c (a1 ⊕ b1) tt

pub overflow_sub-c : goal.overflow_sub-c
overflow_sub-c c = fits c (a1 ⊖ b1) tt

pub overflow_sub-c-2 : goal.overflow_sub-c-2
overflow_sub-c-2 c = fits c (a0 ⊖ b0) tt

pub returns : goal.returns
returns c =
    let s = c.before.before.before.before in
    set4 (xs c) s.requires.0 _ _ _ _ ∙ are-dots w32 (2 ^ 19) (xs c) s.requires.1 (a0 ⊕ b0 ∷ a1 ⊕ b1 ∷ a1 ⊖ b1 ∷ a0 ⊖ b0 ∷ []) tt
