-- `nums::word_at` meets its contract: eight bytes are a word. Assumes nothing.
use mathlib.Core.Path.{◌∙◌}
use Rattle.stream.proofs.Bytes.{word-read}
use Rattle.stream.proofs.nums.word_at.Goals as goal

pub returns : goal.returns
returns c = c.from_le_bytes.ensures ∙ word-read c.args.bytes.now c.args.at c.copy_from_slice.ensures.after
