-- `begin` meets its contract: a new plane, and an empty history over it. Assumes nothing.
use mathlib.Core.Path.{◌≡◌, sym, ap, ◌∙◌, subst}
use mathlib.Core.List.{◌++◌}
use Prim.Native.Nat.{ℕ}
use native.Mathlib.Omega.{arith}
use lib.ListN.{length, take, drop}
use Rattle.whole.specs.Sums.{tab}
use Rattle.whole.proofs.Fill.{length-tab}
use Rattle.screen.proofs.Planes.{possible-is}
use Rattle.screen.proofs.Tails.{front-back}
use Rattle.past.specs.Commands.{cells}
use Rattle.past.proofs.Pasts.{held_new}
use Rattle.past.proofs.begin.Goals as goal

pub returns-clause-held : goal.returns-clause-held
returns-clause-held c levels l =
    let q = c.args in
    let n = c.new_screen-s in
    let f = c.forget in
    let r = n.result in
    let k = c.cells-n.result in
    let p = possible-is q.width q.height q.depth c.requires.0 in
    held_new r n.new.room levels q.steps.now f.new.steps (f.new.index ++ drop k q.index.now) n.ensures.sound (omega (arith, n.ensures.sides.1, p.0)) (omega (arith, n.ensures.sides.2, p.5))
    (omega arith) c.requires.3 l f.ensures.0
    (subst (λ (j : ℕ). take j (f.new.index ++ drop k q.index.now) ≡ tab (cells r) (λ _. 0)) c.cells-n.ensures.count
    (front-back k q.index.now f.new.index (ap length f.ensures.1 ∙ length-tab (cells r) (λ _. 0) ∙ sym c.cells-n.ensures.count) ∙ f.ensures.1))
