use Rattle.wide_rows.proofs.Places.{put_both}
use Rattle.wide_rows.proofs.rows.put_two.Goals as goal

-- src/rows.rt:174:1
pub returns : goal.returns
returns c = put_both c.requires.0 c.requires.1 c.put.ensures c.put-2.ensures
