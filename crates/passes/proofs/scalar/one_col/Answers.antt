-- `passes::scalar::one_col` meets its contract: the live numbers of the column are taken, put through the kernel, and put back. Assumes nothing.
use mathlib.Core.Path.{sym, ap, ◌∙◌}
use Prim.Native.Nat.{ℕ}
use lib.IntN.{ℤ, pos}
use lib.ListN.{get_or}
use Rattle.whole.specs.Grid.{grid_of}
use Rattle.groups.proofs.Together.{live-left}
use Rattle.passes.proofs.Living.{live-asks}
use Rattle.passes.proofs.scalar.one_col.Goals as goal
use Rattle.passes.proofs.scalar.one_col.Lts as lts
use Rattle.passes.proofs.scalar.one_col.Reads as reads
use Rattle.passes.proofs.scalar.one_col.Tie as tie

abbrev Start : Type 0
Start = lts.Start tie.the-claims reads.Pre reads.Post tie.handed_clauses

module _ (s : Start) where
  abbrev column : ℕ → ℤ
  column r = grid_of s.args.sw s.args.work.now r s.args.x

pub inv_tx1d-requires : goal.inv_tx1d-requires
inv_tx1d-requires c =
    (c.requires.code_value.0, live-asks c.args.n c.args.live c.args.sh (column c.before.before.before.before) c.take_col.new.buf c.requires.code_value.1 c.requires.code_value.5 (c.take_col.auto.buf ∙ sym c.requires.code_value.4) c.take_col.ensures c.requires.by_index)

pub returns : goal.returns
returns c =
    record {
      by_index_2 = λ r h. c.put_col.ensures.by_index r h
          ∙ ap (λ q. get_or q r (pos 0)) (c.inv_tx1d.ensures ∙ live-left c.args.n c.args.live c.args.sh (column c.before.before.before.before.before.before.before.before.before) c.take_col.new.buf c.requires.code_value.5 (c.take_col.auto.buf ∙ sym c.requires.code_value.4) c.take_col.ensures c.args.code);
      by_index_3 = c.put_col.ensures.by_index_2;
    }
