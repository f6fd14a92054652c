-- `script::act` meets its contract: each command hands on a screen with its past. Assumes nothing.
use mathlib.Core.Path.{◌≡◌, sym, ap, ◌∙◌, subst}
use Prim.Native.Nat.{ℕ, ◌*◌}
use lib.ListN.{length, take, drop}
use mathlib.Core.List.{List, ◌++◌}
use lib.IntN.{ℤ}
use Rattle.std.specs.Prelude.{Option, Some}
use Rattle.remain.specs.Remaining.{count}
use Rattle.keeping.specs.Range.{area}
use Rattle.screen.specs.declared.Screen.{Screen}
use Rattle.screen.specs.declared.command.Command.{Command}
use Rattle.screen.specs.declared.command.Command.TheVariants.{Looks}
use Rattle.screen.proofs.Planes.{screen-part}
use Rattle.screen.specs.Screens.{There}
use Rattle.past.specs.Commands.{memory, Held, HeldOn}
use Rattle.past.proofs.Pasts.{past-good}
use Rattle.orders.specs.Orders.{Ordered}
use Rattle.glass.proofs.Results.{always-err}
use Rattle.glass.proofs.Rooms.{samples, some-cells, held-obeyed, held-some}
use Rattle.glass.proofs.script.act.Goals as goal

-- what holds of the screen that is there
held : {o : Option Screen} {s : Screen} (room levels : List ℤ) (steps index : List ℕ) → o ≡ Some s → Held o room steps levels index → There s × HeldOn s room steps levels index
held {o} {s} room levels steps index e h = subst (λ (o : Option Screen). Held o room steps levels index) e h

pub returns-in_err-obey-in-Changes-Some-clause-err : goal.returns-in_err-obey-in-Changes-Some-clause-err
returns-in_err-obey-in-Changes-Some-clause-err g c =
    let q = c.args in
    let r = c.requires.ordered.1 in
    let m = c.in-Changes-Some in
    let u = c.obey.new in
    let n = c.samples-n in
    let k = c.cells-cells in
    let h = held q.room.now q.levels.now q.steps.now q.index.now m.is-1 c.requires.held in
    always-err c.from_residual-in_err-obey-in-Changes-Some.result
    (subst (λ (o : Option Screen). Held o (u.plane ++ drop n.result q.room.now) u.steps u.levels (u.index ++ drop k.result q.index.now)) (sym m.is-1) (
      h.0,
      held-some m.s q.list.now q.room.now q.levels.now q.steps.now q.index.now r.screen r.last h.0.0 n.ensures.count k.ensures.count m.act u.plane u.levels u.steps u.index
          h.1 c.obey.auto.plane c.obey.auto.index c.in_err-obey-in-Changes-Some.ensures.err,
    ))

pub returns-in_ok-obey-in-Changes-Some-clause-ok : goal.returns-in_ok-obey-in-Changes-Some-clause-ok
returns-in_ok-obey-in-Changes-Some-clause-ok g c =
    let q = c.args in
    let r = c.requires.ordered.1 in
    let m = c.in-Changes-Some in
    let u = c.obey.new in
    let h = held q.room.now q.levels.now q.steps.now q.index.now m.is-1 c.requires.held in (
      h.0,
      held-obeyed m.s q.list.now q.room.now q.levels.now q.steps.now q.index.now r.screen r.last h.0.0 c.samples-n.ensures.count c.cells-cells.ensures.count m.act u.plane u.levels u.steps u.index
          h.1 c.obey.auto.plane c.obey.auto.index c.in_ok-obey-in-Changes-Some.ensures.ok,
    )

pub look-requires : goal.look-requires
look-requires g c =
    let q = c.args in
    let r = c.requires.ordered.1 in
    let m = c.in-Looks-Some in
    let s = m.s in
    let n = c.samples-n-in-Looks-Some.ensures.count in
    let k = c.cells-cells-in-Looks-Some.ensures.count in
    let h = held q.room.now q.levels.now q.steps.now q.index.now m.is-1 c.requires.held in (
      record {
        there = h.0;
        size = samples s q.list.now q.room.now q.levels.now q.steps.now q.index.now r.screen r.last h.0.0 n k;
        copied = ap (λ j. length (take j q.kept.now)) n ∙ screen-part q.kept.now h.0.0.long h.0.0.high r.copy;
        numbers = r.line;
        marks = r.marks;
        most = (past-good (area (s.stride * s.height) s.stride s.width s.height) (memory s q.room.now q.steps.now q.levels.now q.index.now) h.1).keeping.most;
        cells = some-cells s q.list.now q.room.now q.levels.now q.steps.now q.index.now r.screen r.last h.0.0 n k;
      },
      (subst (λ (o : Option Screen). Ordered (Looks m.l) o (count q.steps.now) q.list.now) m.is-1
          (subst (λ (k : Command). Ordered k q.s (count q.steps.now) q.list.now) m.is-0 c.requires.ordered.0)).1,
    )
