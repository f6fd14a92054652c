-- `rows::few::upto` meets its contract: the test says whether the number is live. Assumes nothing.
use mathlib.Core.Path.{sym, ◌∙◌}
use mir.Syntax.{w32}
use mir.ValLaws.{to_z-of_z}
use Rattle.tables.proofs.First.{first-in, first_out}
use Rattle.rows.proofs.few.upto.Goals as goal

pub returns-then-i-live : goal.returns-then-i-live
returns-then-i-live c =
    let t = c.before in
    let s = t.before in
    to_z-of_z w32 _ (record { sfits = c.result-1.given }) ∙ sym (first-in s.args.live s.args.c.now s.args.i t.if-i-live.true)

pub returns-else-i-live : goal.returns-else-i-live
returns-else-i-live c = let s = c.before in sym (first_out s.args.live s.args.c.now s.args.i c.if-i-live.false)
