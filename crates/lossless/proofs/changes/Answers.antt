-- `lossless::changes` meets its contract: the residuals, and in an undo their opposites. Assumes nothing.
use mathlib.Core.Path.{sym, ap, ◌∙◌, subst}
use mathlib.Core.Bool.{false}
use mathlib.Core.List.{map}
use lib.IntN.{neg_ℤ}
use Rattle.wht.specs.Calls.{Sixteen}
use Rattle.lossless.specs.Bounds.{change}
use Rattle.lossless.proofs.Adding.{change-size}
use Rattle.lossless.proofs.changes.Goals as goal

pub negate-requires : goal.negate-requires
negate-requires c =
    let r = c.before.before.before in
    let s = r.before.before in
    subst (Sixteen 1048576) (sym r.residuals.ensures) (change-size false s.requires.0)

pub returns-then-undo : goal.returns-then-undo
returns-then-undo c =
    let n = c.before in
    let t = n.before.before in
    let r = t.before.before in
    let s = r.before.before in
    n.negate.ensures ∙ ap (map neg_ℤ) r.residuals.ensures ∙ ap (λ u. change u s.args.level.now) (sym t.if-undo.true)

pub returns-else-undo : goal.returns-else-undo
returns-else-undo c =
    let r = c.before.before in
    let s = r.before.before in
    r.residuals.ensures ∙ ap (λ u. change u s.args.level.now) (sym c.if-undo.false)
