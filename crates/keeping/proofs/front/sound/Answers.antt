-- `keeping::front::sound` meets its contract: the lengths, the count, then the entries. Assumes nothing.
use mathlib.Core.Path.{ap, ◌∙◌}
use Prim.Native.Nat.{◌*◌, ◌≤◌, ◌<◌}
use native.Mathlib.Omega.{arith}
use native.Mathlib.Nat.{le_trans}
use borrow.Author.Tests.{eq-eqb, ne_eqb, le-leb, lt-leb}
use lib.Dec.{leb}
use lib.ListN.{length}
use Rattle.whole.specs.Search.{seek}
use Rattle.remain.specs.Remaining.{count}
use Rattle.remain.specs.Touch.{across}
use Rattle.remain.proofs.Corners.{few}
use Rattle.keeping.specs.Range.{area_of, entry_ok, sound}
use Rattle.keeping.proofs.Facts.{shape_is}
use Rattle.keeping.proofs.front.sound.Goals as goal

pub returns-then-s-ne16385 : goal.returns-then-s-ne16385
unfolding sound
returns-then-s-ne16385 c = rw (ne_eqb (length c.args.s.now) 16385 c.if-s-ne16385.true)

pub returns-then-l-ne65536 : goal.returns-then-l-ne65536
unfolding sound
returns-then-l-ne65536 c = rw (eq-eqb (length c.args.s.now) 16385 c.if-s-ne16385.false, ne_eqb (length c.args.l.now) 65536 c.if-l-ne65536.true)

pub overflow_add-high : goal.overflow_add-high
overflow_add-high c = omega (arith, (shape_is (area_of c.args.a) c.requires).rows_most)

pub overflow_add-wide : goal.overflow_add-wide
overflow_add-wide c = let h = shape_is (area_of c.args.a) c.requires in omega (arith, h.width_most, h.stride_most)

pub overflow_mul-high : goal.overflow_mul-high
overflow_mul-high c =
    let h = shape_is (area_of c.args.a) c.requires in
    record { fits = omega (arith, few c.args.a.rows c.args.a.width h.rows_most (le_trans h.width_most h.stride_most)) }

pub returns-then-cells-high : goal.returns-then-cells-high
unfolding sound
returns-then-cells-high c = rw (eq-eqb (length c.args.s.now) 16385 c.if-s-ne16385.false, eq-eqb (length c.args.l.now) 65536 c.if-l-ne65536.false, ne_eqb c.args.cells (across c.args.a.rows * across c.args.a.width) c.if-cells-high.true)

pub returns-then-k-gt4096 : goal.returns-then-k-gt4096
unfolding sound
returns-then-k-gt4096 c = let h : 4096 < count c.args.s.now = omega (arith, c.word-k.ensures) in rw (eq-eqb (length c.args.s.now) 16385 c.if-s-ne16385.false, eq-eqb (length c.args.l.now) 65536 c.if-l-ne65536.false, eq-eqb c.args.cells (across c.args.a.rows * across c.args.a.width) c.if-cells-high.false, lt-leb (count c.args.s.now) 4096 h)

pub returns : goal.returns
unfolding sound
returns c = let h : count c.args.s.now ≤ 4096 = omega (arith, c.word-k.ensures, c.if-k-gt4096.false) in rw (eq-eqb (length c.args.s.now) 16385 c.if-s-ne16385.false, eq-eqb (length c.args.l.now) 65536 c.if-l-ne65536.false, eq-eqb c.args.cells (across c.args.a.rows * across c.args.a.width) c.if-cells-high.false, le-leb (count c.args.s.now) 4096 h) (c.entries_ok.ensures ∙ ap (λ k. leb k (seek (entry_ok (area_of c.args.a) c.args.s.now c.args.l.now) 0 k)) c.word-k.ensures)
