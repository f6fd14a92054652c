-- A command that can be carried out, with the numbers of its line. Definitions only.
--     Ordered c s n list      the screen s, with n steps that remain, is there and can carry out the command c; a new screen can be
use Rattle.std.specs.Prelude.{◌≡◌, true, List, ℕ, ◌≤◌, ◌<◌, ℤ, Option, Some, None}
use Rattle.screen.specs.declared.Screen.{Screen}
use Rattle.screen.specs.declared.command.Command.{Command}
use Rattle.screen.specs.declared.command.Command.TheVariants.{Begin, Changes, Keep, Looks}
use Rattle.screen.specs.Planes.{argument}
use Rattle.screen.specs.Screens.{possible_of}
use Rattle.screen.specs.Commands.{ActFits, LookFits}

abbrev pub Ordered : Command → Option Screen → ℕ → List ℤ → Type 0
Ordered Begin s n list = (possible_of (argument list 0) (argument list 1) (argument list 2) ≡ true) × (argument list 3 ≤ 64)
Ordered (Changes a) None n list = ⊥
Ordered (Changes a) (Some s) n list = (0 < s.stride) × ActFits a s n list
Ordered Keep None n list = ⊥
Ordered Keep (Some s) n list = 0 < s.stride
Ordered (Looks l) None n list = ⊥
Ordered (Looks l) (Some s) n list = (0 < s.stride) × LookFits l s list
