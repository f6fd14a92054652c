-- `Screen::add` meets its contract: a block that stands starts inside the plane; any other is lent nothing. Assumes nothing.
use mathlib.Core.Path.{◌≡◌, sym, ap, ◌∙◌}
use mathlib.Core.Bool.{true}
use mathlib.Core.List.{List, ◌++◌}
use Prim.Native.Nat.{ℕ, ◌+◌, ◌*◌, ◌≤◌}
use native.Mathlib.Nat.{le_trans}
use native.Mathlib.Omega.{arith}
use borrow.Author.Tests.{leb-true}
use lib.Dec.{leb}
use lib.IntN.{ℤ}
use lib.ListN.{length}
use Rattle.answers.specs.declared.Answer.{Answer}
use Rattle.verdicts.specs.Verdicts.{w_of, h_of}
use Rattle.pixels.specs.Calls.{strict, add_of}
use Rattle.verdicts.proofs.Judging.{sides}
use Rattle.whole.proofs.Tests.{both}
use Rattle.screen.specs.declared.Screen.{Screen}
use Rattle.screen.specs.Planes.{stands_of, block_stands, block_of, from_on}
use Rattle.screen.proofs.Tails.{none, tail-lent, tail-back}
use Rattle.screen.proofs.Planes.{stands-is, block-fits}
use Rattle.screen.proofs.Screen.add.Goals as goal

inside : (t : Screen) (p : List ℤ) (row column tx : ℕ) → length p ≡ t.stride * t.height → t.width ≤ t.stride → block_stands t.width t.height row column tx ≡ true
    → row * t.stride + column ≤ length p
inside t p row column tx size wide on =
    let b = both (leb tx 24) (stands_of t.width t.height row column (w_of tx) (h_of tx)) on in
    let k = leb-true tx 24 b.0 in
    let q = stands-is t.width t.height row column (w_of tx) (h_of tx) b.1 in
    let z = sides tx (omega arith) in
    omega (arith, size, block-fits t.stride t.height row column (w_of tx) 0 (le_trans q.0 wide) (omega (arith, q.1, z.high)))

pub overflow_mul-start : goal.overflow_mul-start
overflow_mul-start c = let q = c.args in record { fits = omega (arith, c.well_formed.0.1, inside q.self q.plane.now q.row q.column q.tx c.requires.0 c.requires.1 (sym c.block_stands.ensures ∙ c.if-block_stands.true)) }

pub overflow_add-start : goal.overflow_add-start
overflow_add-start c = let q = c.args in record { fits = omega (arith, c.well_formed.0.1, inside q.self q.plane.now q.row q.column q.tx c.requires.0 c.requires.1 (sym c.block_stands.ensures ∙ c.if-block_stands.true)) }

pub offset_bounds-plane-start : goal.offset_bounds-plane-start
offset_bounds-plane-start c = let q = c.args in record { fits = omega (arith, c.well_formed.0.1, inside q.self q.plane.now q.row q.column q.tx c.requires.0 c.requires.1 (sym c.block_stands.ensures ∙ c.if-block_stands.true)) }

pub slice_bounds-inv_txfm_add-count : goal.slice_bounds-inv_txfm_add-count
slice_bounds-inv_txfm_add-count c = let q = c.args in inside q.self q.plane.now q.row q.column q.tx c.requires.0 c.requires.1 (sym c.block_stands.ensures ∙ c.if-block_stands.true)

pub slice_bounds-inv_txfm_add-start : goal.slice_bounds-inv_txfm_add-start
slice_bounds-inv_txfm_add-start c = let q = c.args in inside q.self q.plane.now q.row q.column q.tx c.requires.0 c.requires.1 (sym c.block_stands.ensures ∙ c.if-block_stands.true)

pub returns-then-block_stands : goal.returns-then-block_stands
unfolding block_of
returns-then-block_stands c =
    let f = c.inv_txfm_add in
    let q = c.args in
    let a = q.row * q.self.stride + q.column in
    rw (sym c.block_stands.ensures ∙ c.if-block_stands.true)
    (ap (λ l. (f.result, l)) (tail-back a q.plane.now f.new.dst)
    ∙ ap (from_on a q.plane.now) (f.ensures ∙ ap (λ l. add_of strict l q.self.stride q.coeff.now q.txtp q.tx q.self.depth) (tail-lent a q.plane.now)))

pub returns : goal.returns
unfolding block_of
returns c =
    let f = c.inv_txfm_add-2 in
    let p = c.args.plane.now in
    rw (sym c.block_stands.ensures ∙ c.if-block_stands.false)
    (ap (λ l. (f.result, l ++ p)) (none f.new.dst f.auto.dst) ∙ ap (λ (x : Answer × List ℤ). (x.0, p)) f.ensures)
