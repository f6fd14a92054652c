-- `Screen::levels_to` meets its contract: the tests in their order, and then differences of samples in range. Assumes nothing.
use mathlib.Core.Path.{◌≡◌, refl, sym, ap, ◌∙◌, subst}
use mathlib.Core.Bool.{true}
use mathlib.Core.List.{List}
use Prim.Native.Nat.{ℕ, ◌+◌, ◌*◌, ◌≤◌, ◌<◌}
use native.Mathlib.Nat.{le_trans, le_refl}
use native.Mathlib.Omega.{arith}
use borrow.Author.Tests.{not-true, not-false}
use lib.IntN.{ℤ}
use lib.ListN.{length}
use Rattle.whole.specs.Sums.{item}
use Rattle.whole.specs.Search.{cell_at}
use Rattle.whole.proofs.Num.{back}
use Rattle.whole.proofs.Search.{seek-passed}
use Rattle.wht.specs.Calls.{Sixteen}
use Rattle.wht.specs.Wht.{fwht}
use Rattle.lossless.specs.Gains.{present_ok}
use Rattle.lossless.specs.Step.{sample}
use Rattle.lossless.specs.Wanted.{Samples}
use Rattle.lossless.proofs.Adding.{rows_end, sample-size}
use Rattle.screen.specs.declared.Screen.{Screen}
use Rattle.screen.specs.Planes.{stands_of}
use Rattle.screen.specs.Steps.{Near}
use Rattle.screen.proofs.Planes.{stands-is, block-fits}
use Rattle.screen.proofs.Levels.{found, levels-off, levels-bad, levels-new, gaps-small}
use Rattle.screen.proofs.Screen.levels_to.Goals as goal

module _ (t : Screen) (p : List ℤ) (row column : ℕ) where
  last : length p ≡ t.stride * t.height → t.width ≤ t.stride → stands_of t.width t.height row column 4 4 ≡ true → row * t.stride + column + 3 * t.stride + 4 ≤ length p
  last size wide on =
      let q = stands-is t.width t.height row column 4 4 on in
      omega (arith, size, block-fits t.stride t.height row column 4 3 (le_trans q.0 wide) q.1)

  near : (b l : List ℤ) → t.depth ≤ 12 → Samples t.depth b → 16 ≤ found t.depth t.stride t.width t.height row column p b l → Near p (row * t.stride + column) t.stride b
  near b l deep s h =
      record {
        count = s.count;
        wanted = λ k h. sample-size t.depth (item b k) deep (s.good k h);
        present = λ k h'.
            sample-size t.depth (item p (cell_at (row * t.stride + column) t.stride 4 k)) deep
            (seek-passed (present_ok (sample t.depth) (cell_at (row * t.stride + column) t.stride 4) p) 16 h k h');
      }

pub returns-then-not-stands : goal.returns-then-not-stands
returns-then-not-stands c =
    let q = c.args in
    let t = q.self in
    levels-off t.depth t.stride t.width t.height q.row q.column q.plane.now q.wanted.now q.levels.now (sym c.stands.ensures ∙ not-true _ c.if-not-stands.true-raw)

pub find_outside-requires-clause-by_index : goal.find_outside-requires-clause-by_index
find_outside-requires-clause-by_index c =
    let q = c.args in
    rows_end (q.row * q.self.stride + q.column) q.self.stride (length q.plane.now) (last q.self q.plane.now q.row q.column c.requires.0 c.requires.4 (sym c.stands.ensures ∙ not-false _ c.if-not-stands.false-raw))

pub returns-in-Some : goal.returns-in-Some
returns-in-Some c =
    let q = c.args in
    let t = q.self in
    levels-bad t.depth t.stride t.width t.height q.row q.column q.plane.now q.wanted.now q.levels.now (sym c.stands.ensures ∙ not-false _ c.if-not-stands.false-raw)
    (let e = rw (back c.high_end-hi.type_inv, c.high_end-hi.ensures) at c.in-Some.ensures in subst (λ (k : ℕ). k < 16) (sym e.0) e.1)

pub differences-requires : goal.differences-requires
differences-requires c =
    let q = c.args in (
      last q.self q.plane.now q.row q.column c.requires.0 c.requires.4 (sym c.stands.ensures ∙ not-false _ c.if-not-stands.false-raw),
      refl,
      near q.self q.plane.now q.row q.column q.wanted.now q.levels.now c.requires.1 c.requires.2
          (subst (λ (k : ℕ). 16 ≤ k) (sym (rw (back c.high_end-hi.type_inv, c.high_end-hi.ensures) at c.in-None.ensures)) (le_refl 16)),
    )

pub levels-requires : goal.levels-requires
levels-requires c =
    let q = c.args in (
      subst (λ (l : List ℤ). Sixteen 65535 l) (sym c.differences.ensures)
          (gaps-small (near q.self q.plane.now q.row q.column q.wanted.now q.levels.now c.requires.1 c.requires.2
          (subst (λ (k : ℕ). 16 ≤ k) (sym (rw (back c.high_end-hi.type_inv, c.high_end-hi.ensures) at c.in-None.ensures)) (le_refl 16)))),
      c.requires.3,
    )

pub returns-in-None : goal.returns-in-None
returns-in-None c =
    let q = c.args in
    let t = q.self in
    c.levels.ensures ∙ ap fwht c.differences.ensures
    ∙ levels-new t.depth t.stride t.width t.height q.row q.column q.plane.now q.wanted.now q.levels.now (sym c.stands.ensures ∙ not-false _ c.if-not-stands.false-raw)
    (subst (λ (k : ℕ). 16 ≤ k) (sym (rw (back c.high_end-hi.type_inv, c.high_end-hi.ensures) at c.in-None.ensures)) (le_refl 16))
