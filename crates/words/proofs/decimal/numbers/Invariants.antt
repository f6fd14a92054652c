use mathlib.Core.Path.{◌≡◌}
use Prim.Native.Nat.{◌-◌, ◌≤◌, ◌<◌}
use lib.ListN.{length, get_or, drop}
use mathlib.Core.Bool.{false}
use mathlib.Core.List.{[]}
use Rattle.words.specs.Words.{blank, words_of}
use Rattle.words.proofs.Takes.{Taking}
use Rattle.words.proofs.decimal.numbers.Given as goal

abbrev pub invariant-loop-at : goal.invariant-loop-at
invariant-loop-at l = (l.at ≤ length l.line) × (l.at < length l.line → blank (get_or l.line l.at 0) ≡ false) × Taking (words_of [] (drop l.from l.line)) l.initial.list (words_of [] (drop l.at l.line)) l.list l.count

abbrev pub decreases-loop-at : goal.decreases-loop-at
decreases-loop-at l = length l.line - l.at
