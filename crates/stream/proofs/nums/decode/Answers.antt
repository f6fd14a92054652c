-- `nums::decode` meets its contract: each four bytes are a number. Assumes nothing.
use mathlib.Core.Path.{ap, ◌∙◌}
use mathlib.Core.List.{[]}
use native.Mathlib.Omega.{arith}
use lib.IntN.{pos}
use lib.ListN.{length, get_or, take}
use lib.Seq.{length-take-le}
use mir.Syntax.{w32}
use mir.Val.{to_z}
use Rattle.std.specs.Int.{from_le_bytes}
use Rattle.stream.proofs.Bytes.{chunk-num}
use Rattle.whole.proofs.Fill.{filled-all}
use Rattle.stream.proofs.nums.decode.Goals as goal

pub returns : goal.returns
returns c =
    let n = length c.args.list.now in
    let bytes = c.args.bytes.now in
    filled-all (pos 0) c.turn.new.out _ _ c.turn.auto.out (λ k h.
    c.turn.ensures k [] (pos 0) (omega (arith, c.as_chunks.ensures.front_len, length-take-le n c.as_chunks.result.0.now))
    ∙ ap (to_z w32) (ap (λ l. from_le_bytes w32 (get_or (take n l) k [])) c.as_chunks.ensures.front ∙ chunk-num n _ k bytes [] h (omega arith)))
