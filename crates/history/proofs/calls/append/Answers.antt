-- `history::calls::append` meets its contract: the mark, the levels, the count, then the cells. Assumes nothing.
use mathlib.Core.Path.{◌≡◌, ap, ◌∙◌}
use Prim.Native.Nat.{◌+◌, ◌*◌}
use native.Mathlib.Omega.{arith}
use lib.ListN.{set, length-set}
use Rattle.remain.specs.Remaining.{mark, count, number_before, marks, put_mark, put_on}
use Rattle.remain.specs.Touch.{across, mended}
use Rattle.remain.specs.Remaining.{added_to}
use Rattle.history.proofs.calls.append.Goals as goal
use Rattle.history.proofs.calls.append.Lts as lts
use Rattle.history.proofs.calls.append.Reads as reads
use Rattle.history.proofs.calls.append.Tie as tie

abbrev After-number_before-q : Type 0
After-number_before-q = lts.After-number_before tie.the-claims reads.Pre reads.Post tie.handed_clauses

abbrev After-put_mark : Type 0
After-put_mark = lts.After-put_mark tie.the-claims reads.Pre reads.Post tie.handed_clauses

number_is : (c : After-number_before-q) → c.number_before-q.result ≡ number_before c.args.s.now (count c.args.s.now)
number_is c = c.number_before-q.ensures ∙ ap (number_before c.args.s.now) c.word-n.ensures

steps-are : (c : After-put_mark) → set c.put_mark.new.s 0 (c.word-n.result + 1) ≡ added_to c.args.depth c.args.row c.args.column c.args.s.now
steps-are c =
    let n = c.word-n.ensures in
    let q = number_is c.before.before in
    ap (λ l. set l 0 (c.word-n.result + 1)) c.put_mark.ensures
    ∙ (λ i. set (put_mark (n i) (mark (q i + 1) c.args.depth c.args.row c.args.column) c.args.s.now) 0 (n i + 1))

pub overflow_add-q : goal.overflow_add-q
overflow_add-q c = record { fits = omega (arith, number_is c.before.before, c.requires.s_bound.1) }

pub mend-requires : goal.mend-requires
mend-requires c =
    let k = c.requires.writable.0 in
    record {
      n_bound = (omega (arith, c.word-n.ensures, c.requires.s_bound.0), simp length-set (c.put_mark.auto.s ∙ k.steps));
      width_bound = (k.wide, k.high, k.right, k.low, k.cells);
    }

pub returns : goal.returns
returns c =
    let n = c.word-n.ensures in
    let e = steps-are c.before.before.before.before.before.before.before.before.before.before in (
      e,
      c.put_levels.ensures ∙ ap (λ i. put_on (16 * i) c.args.level.now 16 c.args.l.now) n,
      c.mend.ensures ∙ (λ i. mended (across c.args.width) (marks (e i) (n i + 1)) c.args.row c.args.column c.args.index.now),
    )
