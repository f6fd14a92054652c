-- What a command makes of the screen's memory, and what always holds of it. Definitions only.
-- The numbers of a command's line are a list; the memory is the plane and the history's three slices (`Lent`).
--     area_of s p          the area of a plane p of the screen s
--     emptied a p m        the plane p with no step remaining; the levels stay
--     redrawn_of            a block: where it is drawn, the steps before it are forgotten
--     changed_of            a change: a step with the levels that lead to the sixteen wanted samples
--     folded_of             a fold
--     obey_of               one call: a block, a change, a withdrawal or a fold
--     undone a k m         the k newest steps taken back, newest first
--     act_of n              the command that changes the memory by its number: 6 is an undo, any other a call
--     after_of              the memory after a command
--     Past a m             calls and folds have led to m from some still: its steps, taken from that still, leave its plane
--     Held s room ..       the same of a screen that is there (`There`), in its rooms; where there is none, nothing
--     Obeyable, Seen       what the commands that change the memory ask for, and those that only look
--     Roomy                the rooms in which everything is kept
use Rattle.std.specs.Prelude.{◌≡◌, cond, eqb, List, ℕ, zero, suc, ◌*◌, ◌≤◌, Option, Some, None, ℤ, pos, length, take, set}
use Rattle.answers.specs.declared.Answer.{Answer}
use Rattle.answers.specs.Answers.{ends}
use Rattle.whole.specs.Sums.{tab}
use Rattle.remain.specs.Remaining.{count}
use Rattle.remain.specs.Touch.{across}
use Rattle.keeping.specs.Range.{Area, area}
use Rattle.history.specs.Calls.{Lent, lent, step_of, undo_of, withdraw_of}
use Rattle.folding.specs.Fold.{fold_of}
use Rattle.folding.specs.Led.{Led, with_folded}
use Rattle.screen.specs.declared.Screen.{Screen}
use Rattle.screen.specs.declared.command.Call.{Call}
use Rattle.screen.specs.declared.command.Call.TheVariants.{Block, Change, Withdraw, Fold}
use Rattle.screen.specs.declared.command.Act.{Act}
use Rattle.screen.specs.declared.command.Act.TheVariants.{One, Undo}
use Rattle.screen.specs.Planes.{argument, drawn_of}
use Rattle.screen.specs.Screens.{There}
use Rattle.screen.specs.Commands.{call_of}
use Rattle.screen.specs.Steps.{wanted, levels_to}

abbrev pub area_of : Screen → List ℤ → Area
area_of s p = area (length p) s.stride s.width s.height

abbrev pub emptied : Area → List ℤ → Lent → Lent
emptied a p m = lent p (set m.steps 0 0) m.levels (tab (across a.rows * across a.width) (λ _. 0))

unfoldable pub redrawn_of : Area → ℕ → List ℤ → Lent → Answer × Lent
redrawn_of a depth list m =
    let r = drawn_of a.stride a.width a.rows depth list m.plane in
    ends r.0 m (emptied a r.1 m)

unfoldable pub changed_of : Area → ℕ → List ℤ → Lent → Answer × Lent
changed_of a depth list m =
    step_of a depth (argument list 0) (argument list 1)
    (levels_to depth a.stride a.width a.rows (argument list 0) (argument list 1) m.plane (wanted list) (tab 16 (λ _. pos 0))) m

unfoldable pub folded_of : Area → Lent → Answer × Lent
folded_of a m = let r = fold_of a m.steps m.levels m.index in (r.0, with_folded m r.1)

abbrev pub obey_of : Area → Call → ℕ → List ℤ → Lent → Answer × Lent
obey_of a Block depth list m = redrawn_of a depth list m
obey_of a Change depth list m = changed_of a depth list m
obey_of a Withdraw depth list m = withdraw_of a (argument list 0) m
obey_of a Fold depth list m = folded_of a m

abbrev pub undone : Area → ℕ → Lent → Lent
undone a zero m = m
undone a (suc k) m = (undo_of a (undone a k m)).1

abbrev pub act_of : ℕ → Act
act_of n = cond (eqb n 6) Undo (One (call_of n))

abbrev pub after_of : Area → Act → ℕ → List ℤ → Lent → Lent
after_of a (One c) depth list m = (obey_of a c depth list m).1
after_of a Undo depth list m = undone a (argument list 0) m

pub record Past (a : Area) (m : Lent) : Type 0 where
  pub still : List ℤ
  pub led : Led a still m

-- what a screen has of its rooms: the first samples, and the first cells
abbrev pub cells : Screen → ℕ
cells s = across s.height * across s.width

abbrev pub memory : Screen → List ℤ → List ℕ → List ℤ → List ℕ → Lent
memory s room steps levels index = lent (take (s.stride * s.height) room) steps levels (take (cells s) index)

abbrev pub HeldOn : Screen → List ℤ → List ℕ → List ℤ → List ℕ → Type 0
HeldOn s room steps levels index = Past (area (s.stride * s.height) s.stride s.width s.height) (memory s room steps levels index)

abbrev pub Held : Option Screen → List ℤ → List ℕ → List ℤ → List ℕ → Type 0
Held None room steps levels index = Unit {0}
Held (Some s) room steps levels index = There s × HeldOn s room steps levels index

pub record Obeyable (s : Screen) (list plane : List ℤ) (steps index : List ℕ) : Type 0 where
  pub size : length plane ≡ s.stride * s.height
  pub deep : s.depth ≤ 12
  pub visible : s.width ≤ s.stride
  pub long : s.stride ≤ 320
  pub high : s.height ≤ 256
  pub numbers : 18 ≤ length list
  pub marks : length steps ≡ 16385
  pub cells : length index ≡ across s.height * across s.width

pub record Seen (s : Screen) (list plane kept : List ℤ) (steps index : List ℕ) : Type 0 where
  pub there : There s
  pub size : length plane ≡ s.stride * s.height
  pub copied : length kept ≡ s.stride * s.height
  pub numbers : 1028 ≤ length list
  pub marks : length steps ≡ 16385
  pub most : count steps ≤ 4096
  pub cells : length index ≡ across s.height * across s.width

pub record Roomy (list room kept : List ℤ) (steps : List ℕ) (levels : List ℤ) (index : List ℕ) : Type 0 where
  pub line : 1028 ≤ length list
  pub screen : 81920 ≤ length room
  pub copy : 81920 ≤ length kept
  pub marks : length steps ≡ 16385
  pub sixteens : length levels ≡ 65536
  pub last : 4096 ≤ length index
