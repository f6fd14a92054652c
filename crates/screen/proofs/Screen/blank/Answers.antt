-- `Screen::blank` meets its contract: at turn i the first i samples are there. Assumes nothing.
use mathlib.Core.Path.{refl, ap, ◌∙◌}
use native.Mathlib.Omega.{arith}
use lib.ListN.{length}
use mir.Syntax.{w32}
use mir.ValLaws.{to_z-of_z}
use Rattle.whole.proofs.Fill.{fill_start, fill_more, fill_done, tab-same}
use Rattle.whole.proofs.Num.{back}
use Rattle.screen.specs.Planes.{fresh_of}
use Rattle.screen.proofs.Screen.blank.Goals as goal

pub loop-i-init : goal.loop-i-init
loop-i-init c = fill_start refl

pub loop-i-preserved : goal.loop-i-preserved
loop-i-preserved c = fill_more c.loop-i.invariant (omega arith) (back c.fresh.type_inv ∙ c.fresh.ensures)

pub returns : goal.returns
returns c =
    let q = c.args in
    fill_done c.loop-i.invariant (omega arith)
    ∙ tab-same (length q.list.now) _ _ (λ k h. ap (λ z. fresh_of q.self.stride q.self.width z k) (to_z-of_z w32 q.z c.ranges.z))
