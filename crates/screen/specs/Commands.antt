-- What a command asks for, on a screen that is there. Definitions only.
--     call_of n                the call by a command's number: 2 a block, 3 a change, 4 a withdrawal, any other a fold
--     number_of c              the command's number of a call
--     CallFits c s list        a change: wanted samples in range
--     ActFits a s n list       the same, and of an undo: no more than the n steps that remain
--     LookFits l s list        who: a sample that the screen shows
use Rattle.std.specs.Prelude.{cond, List, ℕ, ◌≤◌, ◌<◌, eqb, ℤ}
use Rattle.lossless.specs.Wanted.{Samples}
use Rattle.screen.specs.declared.Screen.{Screen}
use Rattle.screen.specs.declared.command.Call.{Call}
use Rattle.screen.specs.declared.command.Call.TheVariants.{Block, Change, Withdraw, Fold}
use Rattle.screen.specs.declared.command.Act.{Act}
use Rattle.screen.specs.declared.command.Act.TheVariants.{One, Undo}
use Rattle.screen.specs.declared.command.Look.{Look}
use Rattle.screen.specs.declared.command.Look.TheVariants.{Show, Compare, Pad, Free, Who, Steps}
use Rattle.screen.specs.Planes.{argument}
use Rattle.screen.specs.Steps.{wanted}

abbrev pub call_of : ℕ → Call
call_of n = cond (eqb n 2) Block (cond (eqb n 3) Change (cond (eqb n 4) Withdraw Fold))

abbrev pub number_of : Call → ℕ
number_of Block = 2
number_of Change = 3
number_of Withdraw = 4
number_of Fold = 5

abbrev pub CallFits : Call → Screen → List ℤ → Type 0
CallFits Block s list = Unit {0}
CallFits Change s list = Samples s.depth (wanted list)
CallFits Withdraw s list = Unit {0}
CallFits Fold s list = Unit {0}

abbrev pub ActFits : Act → Screen → ℕ → List ℤ → Type 0
ActFits (One c) s n list = CallFits c s list
ActFits Undo s n list = argument list 0 ≤ n

abbrev pub LookFits : Look → Screen → List ℤ → Type 0
LookFits Show s list = Unit {0}
LookFits Compare s list = Unit {0}
LookFits Pad s list = Unit {0}
LookFits Free s list = Unit {0}
LookFits Who s list = (argument list 0 < s.height) × (argument list 1 < s.width)
LookFits Steps s list = Unit {0}
