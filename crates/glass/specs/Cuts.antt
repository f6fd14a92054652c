-- What a command leaves of the screen's memory where writing its event fails. Definitions only.
--     UndoneSome a k before after                  the newest steps are taken back, no more than k
--     ObeyedSome a act depth list before after     the command is carried out; of an undo, so many of its steps
use Rattle.std.specs.Prelude.{◌≡◌, List, ℕ, ◌≤◌, ℤ}
use Rattle.keeping.specs.Range.{Area}
use Rattle.history.specs.Calls.{Lent}
use Rattle.screen.specs.declared.command.Act.{Act}
use Rattle.screen.specs.declared.command.Act.TheVariants.{One, Undo}
use Rattle.screen.specs.Planes.{argument}
use Rattle.past.specs.Commands.{undone, after_of}

pub record UndoneSome (a : Area) (k : ℕ) (before after : Lent) : Type 0 where
  pub many : ℕ
  pub most : many ≤ k
  pub left : after ≡ undone a many before

abbrev pub ObeyedSome : Area → Act → ℕ → List ℤ → Lent → Lent → Type 0
ObeyedSome a (One c) depth list before after = after ≡ after_of a (One c) depth list before
ObeyedSome a Undo depth list before after = UndoneSome a (argument list 0) before after
