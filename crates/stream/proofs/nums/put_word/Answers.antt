-- `nums::put_word` meets its contract: a word is eight bytes. Assumes nothing.
use mathlib.Core.Path.{◌∙◌}
use Rattle.stream.proofs.Bytes.{put-eight}
use Rattle.stream.proofs.nums.put_word.Goals as goal

pub returns : goal.returns
returns c = put-eight c.args.bytes.now c.args.at c.args.word c.requires (c.copy_from_slice.ensures.after ∙ c.to_le_bytes.ensures)
