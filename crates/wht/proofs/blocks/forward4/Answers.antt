-- `wht::blocks::forward4` meets its contract: every sum fits, and the results are those of `fore`. Assumes nothing.
use mathlib.Core.Path.{◌≡◌}
use mathlib.Core.List.{List, [], ◌∷◌}
use lib.Dec.{T}
use lib.IntN.{ℤ}
use mir.Syntax.{w32}
use mir.Val.{SFits}
use Rattle.whole.proofs.Bounds.{nil, cons, small_at}
use Rattle.whole.proofs.Machine.{Mx, var, ◌⊕◌, ◌⊖◌, val, mach, raw, safe, exact, fits}
use Rattle.wht.specs.Wht.{fore}
use Rattle.wht.proofs.Butterfly.{sum, half, out0, out1, out2, out3}
use Rattle.wht.proofs.blocks.forward4.Goals as goal

module _ (c : goal.Start) where
  abbrev xs : List ℤ
  xs = c.args.o0 ∷ c.args.o1 ∷ c.args.o2 ∷ c.args.o3 ∷ []

  room : (e : Mx) → T (safe w32 (λ _. 2097152) e) → SFits w32 (raw w32 e xs)
  room = fits (λ _. 2097152) xs (small_at (cons c.requires.s0 (cons c.requires.s1 (cons c.requires.s2 (cons c.requires.s3 nil))))) w32

  is : (e : Mx) → T (safe w32 (λ _. 2097152) e) → mach w32 e xs ≡ val e xs
  is = exact (λ _. 2097152) xs (small_at (cons c.requires.s0 (cons c.requires.s1 (cons c.requires.s2 (cons c.requires.s3 nil))))) w32

pub overflow_add-e : goal.overflow_add-e
overflow_add-e c = room c (var 0 ⊕ var 1) tt

pub overflow_add-e-2 : goal.overflow_add-e-2
overflow_add-e-2 c = room c (var 0 ⊕ var 1 ⊕ var 2) tt

pub overflow_sub-e : goal.overflow_sub-e
overflow_sub-e c = room c sum tt

pub overflow_add-result : goal.overflow_add-result
overflow_add-result c = room c (var 0 ⊕ var 1) tt

pub overflow_add-result-2 : goal.overflow_add-result-2
overflow_add-result-2 c = room c (var 0 ⊕ var 1 ⊕ var 2) tt

pub overflow_sub-result : goal.overflow_sub-result
overflow_sub-result c = room c (out0 half) tt

pub overflow_sub-result-2 : goal.overflow_sub-result-2
overflow_sub-result-2 c = room c (out1 half) tt

pub overflow_sub-result-3 : goal.overflow_sub-result-3
overflow_sub-result-3 c = room c (var 3 ⊖ var 2) tt

pub overflow_add-result-3 : goal.overflow_add-result-3
overflow_add-result-3 c = room c (var 3 ⊖ var 2 ⊕ half) tt

pub overflow_sub-result-4 : goal.overflow_sub-result-4
overflow_sub-result-4 c = room c (out2 half) tt

pub overflow_sub-result-5 : goal.overflow_sub-result-5
overflow_sub-result-5 c = room c (out3 half) tt

pub returns : goal.returns
unfolding fore
returns c = λ i. (is c (out0 half) tt i, is c (out1 half) tt i, is c (out2 half) tt i, is c (out3 half) tt i)
