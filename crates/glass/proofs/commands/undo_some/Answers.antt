-- `commands::undo_some` meets its contract: after i turns the i newest steps are taken back. Assumes nothing.
use mathlib.Core.Path.{◌≡◌, subst}
use Prim.Native.Nat.{ℕ}
use native.Mathlib.Omega.{arith}
use Rattle.answers.specs.Answers.{done}
use Rattle.keeping.specs.Range.{area}
use Rattle.history.specs.Calls.{lent, undo_of}
use Rattle.past.specs.Commands.{area_of}
use Rattle.past.proofs.Pasts.{past-good, undoing-more}
use Rattle.glass.proofs.commands.undo_some.Goals as goal

pub word-n-requires : goal.word-n-requires
word-n-requires g c =
    let q = c.args in
    omega (arith, (past-good (area_of q.s q.plane.now) (lent q.plane.now q.steps.now q.levels.now q.index.now) c.requires.0).keeping.steps)

pub say_undo-requires : goal.say_undo-requires
say_undo-requires g c =
    let q = c.args in
    let i = c.loop-i.invariant in
    let k = (past-good (area_of q.s q.plane.now) (lent c.loop-i.plane c.loop-i.steps c.loop-i.levels c.loop-i.index) i.past).keeping in
    (k.steps, omega (arith, i.left, c.requires.1, c.loop-i-test.true), k.most)

pub loop-i-preserved : goal.loop-i-preserved
loop-i-preserved g c =
    let q = c.args in
    let i = c.loop-i.invariant in
    let u = c.undo.new in
    undoing-more (area_of q.s q.plane.now) (lent q.plane.now q.steps.now q.levels.now q.index.now) (lent c.loop-i.plane c.loop-i.steps c.loop-i.levels c.loop-i.index) (lent u.plane u.steps u.levels u.index) c.loop-i._i i (omega (arith, i.left, c.requires.1, c.loop-i-test.true))
    (subst (λ (n : ℕ). (done, lent u.plane u.steps u.levels u.index) ≡ undo_of (area n q.s.stride q.s.width q.s.height) (lent c.loop-i.plane c.loop-i.steps c.loop-i.levels c.loop-i.index)) c.loop-i.auto.plane c.undo.ensures)
