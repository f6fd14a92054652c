-- `nums::encode` meets its contract: at turn i the first i numbers are put, and the others are left to put. Assumes nothing.
use mathlib.Core.Path.{sym, ap, ◌∙◌}
use Prim.Native.Nat.{◌+◌, ◌*◌}
use native.Mathlib.Omega.{arith}
use lib.ListN.{drop}
use borrow.Author.Rules.{rules}
use Rattle.stream.specs.Bytes.{nums_put}
use Rattle.stream.proofs.Bytes.{nums-more, put-four}
use Rattle.stream.proofs.nums.encode.Goals as goal

pub loop-i-preserved : goal.loop-i-preserved
loop-i-preserved c =
    let list = c.args.list.now in
    c.loop-i.invariant ∙ nums-more c.loop-i.bytes list c.loop-i.i (omega arith)
    ∙ ap (λ b. nums_put b (4 * (c.loop-i.i + 1)) (drop (c.loop-i.i + 1) list)) (sym (put-four c.loop-i.bytes (4 * c.loop-i.i) _ _ (omega arith) (c.copy_from_slice.ensures.after ∙ c.to_le_bytes.ensures) (search rules)))
