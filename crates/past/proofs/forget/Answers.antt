-- `forget` meets its contract: the index of an empty list is all 0. Assumes nothing.
use mathlib.Core.Path.{refl, ◌∙◌}
use native.Mathlib.Omega.{arith}
use Rattle.past.proofs.Pasts.{none-index}
use Rattle.past.proofs.forget.Goals as goal

pub returns : goal.returns
returns c =
    let q = c.args in
    (refl, c.rebuild.ensures ∙ none-index q.s.width q.s.height q.steps.now (omega (arith, c.requires.2)))
