-- `chroma::round` meets its contract: the sum and the shift, read back, are the rule by the sign. Assumes nothing.
use mathlib.Core.Path.{◌∙◌}
use Prim.Native.Nat.{ℕ, ◌+◌}
use lib.Dec.{lit<}
use lib.IntN.{pos, ◌+ℤ◌}
use mir.Syntax.{w32}
use mir.Val.{to_z, of_z}
use mir.ValLaws.{to_z-of_z}
use Rattle.whole.proofs.Num.{Num, lit, given, plus, shifted, read}
use Rattle.chroma.proofs.Rounding.{round-neg, round-pos}
use Rattle.chroma.proofs.round.Goals as goal
use Rattle.chroma.proofs.round.Lts as lts
use Rattle.chroma.proofs.round.Reads as reads

abbrev Start : Type 0
Start = lts.Start reads.Pre reads.Post

sum : (s : Start) (k : ℕ) → Num (to_z w32 (of_z w32 s.args.a) +ℤ pos k) (s.args.a +ℤ pos k) (1073741824 + k)
sum s k = plus (given s.ranges.a s.requires) (lit (pos k))

pub returns-then-a-lt0 : goal.returns-then-a-lt0
returns-then-a-lt0 c =
    let s = c.before in
    (read (shifted (read (sum s 127) w32 (lit< tt)) 256) w32 (lit< tt)).is ∙ round-neg s.args.a (rw (to_z-of_z w32 s.args.a s.ranges.a) at c.if-a-lt0.true)

pub returns-else-a-lt0 : goal.returns-else-a-lt0
returns-else-a-lt0 c =
    let s = c.before in
    (read (shifted (read (sum s 128) w32 (lit< tt)) 256) w32 (lit< tt)).is ∙ round-pos s.args.a (rw (to_z-of_z w32 s.args.a s.ranges.a) at c.if-a-lt0.false)
