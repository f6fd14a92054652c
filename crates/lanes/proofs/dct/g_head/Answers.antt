-- `lanes::dct::g_head` meets its contract: after m turns the first m and the last m records hold the joined sums. Assumes nothing.
use mathlib.Core.Path.{◌≡◌, refl, sym, ap, ◌∙◌, subst}
use mathlib.Core.List.{List}
use Prim.Native.Nat.{ℕ, ◌+◌, ◌-◌, ◌^◌, ◌≤◌, ◌<◌}
use native.Mathlib.Omega.{arith}
use borrow.Author.Rules.{rules}
use lib.Dec.{lit≤}
use lib.IntN.{ℤ, pos, nat_abs, ◌+ℤ◌, ◌-ℤ◌, ◌*ℤ◌}
use lib.ListN.{length, get_or}
use mir.Syntax.{w32}
use mir.Val.{to_z, of_z}
use mir.ValLaws.{to_z-of_z}
use Rattle.whole.specs.Sums.{tab, dense_c, fold_at, Within}
use Rattle.whole.specs.Lanes.{col}
use Rattle.whole.proofs.Sums.{within_all}
use Rattle.whole.proofs.Lanes.{col-length}
use Rattle.whole.proofs.Butterfly.{fold-low, fold-high}
use Rattle.tables.specs.Head.{even_at, odd_at}
use Rattle.tables.specs.Dense.{dct_table}
use Rattle.tables.proofs.First.{first-all}
use Rattle.tables.proofs.Heads.{head-left}
use Rattle.tables.proofs.LiveLanes.{fold_start, fold_more, fold_done}
use Rattle.lanes.proofs.Columns.{col-read}
use Rattle.lanes.proofs.Headed.{prod-size, prod-fits, sum-size, sum_fits, both-fit, less-fit, head-small}
use Rattle.lanes.proofs.dct.g_head.Invariants.{evens, odds}
use Rattle.lanes.proofs.dct.g_head.Given.{Over}
use Rattle.lanes.proofs.dct.g_head.Goals as goal
use Rattle.lanes.proofs.dct.g_head.Goals.{After-from, After-from-in-loop-m, After-from-in-loop-m-2, After-mul_add_n-odd}

-- a record that was read, in every lane: its input, within 2^19
module _ {R : Type 0} (at : R → ℕ → ℤ) (cs : List R) (h : length cs ≡ 4) (w : (k : ℕ) → Within (2 ^ 19) (col at k cs)) {i : ℕ} (l : i < 4) {r : R} (e : r ≡ get_or cs i r) (k : ℕ) where
  input : at r k ≡ get_or (col at k cs) i (pos 0)
  input = col-read at cs (omega (arith, h)) e k

  input-size : nat_abs (at r k) ≤ 2 ^ 19
  input-size = subst (λ (z : ℤ). nat_abs z ≤ 2 ^ 19) (sym input) (within_all (2 ^ 19) (col at k cs) (w k) i)

  -- 64 times it
  first-size : {a : R} → at a k ≡ at r k *ℤ pos 64 → nat_abs (at a k) ≤ 2 ^ 26
  first-size f = subst (λ (z : ℤ). nat_abs z ≤ 2 ^ 26) (sym f) (prod-size (at r k) (pos 64) input-size (lit≤ tt))

pub mul_n-a-requires : goal.mul_n-a-requires
mul_n-a-requires g c k =
    prod-fits (g.L.Lanes.lane c.index-c-0.result k) (pos 64) (input-size g.L.Lanes.lane c.args.c.now c.requires.1.0 c.requires.1.1 {i = 0} (omega arith) c.index-c-0.is k) (lit≤ tt) refl

pub loop-m-init : goal.loop-m-init
loop-m-init g c = fold_start g.L.Lanes.lane c.requires.2

even-weight : (g : Over) (c : After-from g) → to_z w32 (of_z w32 c.from.result) ≡ get_or c.args.t.now (c.args.h + c.loop-m.m) (pos 0)
even-weight g c = to_z-of_z w32 _ (record { sfits = c.from.type_inv }) ∙ c.from.ensures ∙ search rules

near-weight : (g : Over) (c : After-from-in-loop-m g) → to_z w32 (of_z w32 c.from-in-loop-m.result) ≡ get_or c.args.t.now c.loop-m.m (pos 0)
near-weight g c = to_z-of_z w32 _ (record { sfits = c.from-in-loop-m.type_inv }) ∙ c.from-in-loop-m.ensures ∙ search rules

far-weight : (g : Over) (c : After-from-in-loop-m-2 g) → to_z w32 (of_z w32 c.from-in-loop-m-2.result) ≡ get_or c.args.t.now (c.args.h + c.args.h + c.loop-m.m) (pos 0)
far-weight g c = to_z-of_z w32 _ (record { sfits = c.from-in-loop-m-2.type_inv }) ∙ c.from-in-loop-m-2.ensures ∙ search rules

pub mul_add_n-even-requires : goal.mul_add_n-even-requires
mul_add_n-even-requires g c = record {
  by_index = λ k. prod-fits (g.L.Lanes.lane c.index-c-2.result k) (get_or c.args.t.now (c.args.h + c.loop-m.m) (pos 0)) (input-size g.L.Lanes.lane c.args.c.now c.requires.1.0 c.requires.1.1 {i = 2} (omega arith) c.index-c-2.is k) (head-small c.requires.0 (c.args.h + c.loop-m.m)) (even-weight g c);
  by_index_2 = λ k. sum_fits (g.L.Lanes.lane c.index-c-2.result k) (get_or c.args.t.now (c.args.h + c.loop-m.m) (pos 0)) (input-size g.L.Lanes.lane c.args.c.now c.requires.1.0 c.requires.1.1 {i = 2} (omega arith) c.index-c-2.is k) (head-small c.requires.0 (c.args.h + c.loop-m.m)) (g.L.Lanes.lane c.mul_n-a.result k) (first-size g.L.Lanes.lane c.args.c.now c.requires.1.0 c.requires.1.1 {i = 0} (omega arith) c.index-c-0.is k (c.mul_n-a.ensures k)) (even-weight g c);
}

pub mul_n-requires : goal.mul_n-requires
mul_n-requires g c k = prod-fits (g.L.Lanes.lane c.index-c-1.result k) (get_or c.args.t.now (c.loop-m.m) (pos 0)) (input-size g.L.Lanes.lane c.args.c.now c.requires.1.0 c.requires.1.1 {i = 1} (omega arith) c.index-c-1.is k) (head-small c.requires.0 (c.loop-m.m)) (near-weight g c)

-- the odd input 1 times its weight
module _ (g : Over) (c : After-from-in-loop-m-2 g) (k : ℕ) where
  near-is : g.L.Lanes.lane c.mul_n.result k ≡ g.L.Lanes.lane c.index-c-1.result k *ℤ get_or c.args.t.now c.loop-m.m (pos 0)
  near-is =
      let e : to_z w32 (of_z w32 c.from-in-loop-m.result) ≡ get_or c.args.t.now c.loop-m.m (pos 0) = to_z-of_z w32 _ (record { sfits = c.from-in-loop-m.type_inv }) ∙ c.from-in-loop-m.ensures ∙ search rules in
      c.mul_n.ensures k ∙ ap (λ z. g.L.Lanes.lane c.index-c-1.result k *ℤ z) e

  near-size : nat_abs (g.L.Lanes.lane c.mul_n.result k) ≤ 2 ^ 26
  near-size = subst (λ (z : ℤ). nat_abs z ≤ 2 ^ 26) (sym near-is) (prod-size (g.L.Lanes.lane c.index-c-1.result k) (get_or c.args.t.now (c.loop-m.m) (pos 0)) (input-size g.L.Lanes.lane c.args.c.now c.requires.1.0 c.requires.1.1 {i = 1} (omega arith) c.index-c-1.is k) (head-small c.requires.0 (c.loop-m.m)))

pub mul_add_n-odd-requires : goal.mul_add_n-odd-requires
mul_add_n-odd-requires g c = record {
  by_index = λ k. prod-fits (g.L.Lanes.lane c.index-c-3.result k) (get_or c.args.t.now (c.args.h + c.args.h + c.loop-m.m) (pos 0)) (input-size g.L.Lanes.lane c.args.c.now c.requires.1.0 c.requires.1.1 {i = 3} (omega arith) c.index-c-3.is k) (head-small c.requires.0 (c.args.h + c.args.h + c.loop-m.m)) (far-weight g c);
  by_index_2 = λ k. sum_fits (g.L.Lanes.lane c.index-c-3.result k) (get_or c.args.t.now (c.args.h + c.args.h + c.loop-m.m) (pos 0)) (input-size g.L.Lanes.lane c.args.c.now c.requires.1.0 c.requires.1.1 {i = 3} (omega arith) c.index-c-3.is k) (head-small c.requires.0 (c.args.h + c.args.h + c.loop-m.m)) (g.L.Lanes.lane c.mul_n.result k) (near-size g c k) (far-weight g c);
}

-- the two sums of a turn
module _ (g : Over) (c : After-mul_add_n-odd g) (k : ℕ) where
  abbrev even : ℕ → ℤ
  even = evens g.L.Lanes.lane c.args.h c.args.t.now c.mul_n-a.result c.index-c-2.result k

  abbrev odd : ℕ → ℤ
  odd = odds g.L.Lanes.lane c.args.h c.args.t.now c.index-c-1.result c.index-c-3.result k

  even_is : g.L.Lanes.lane c.mul_add_n-even.result k ≡ even c.loop-m.m
  even_is =
      let e : to_z w32 (of_z w32 c.from.result) ≡ get_or c.args.t.now (c.args.h + c.loop-m.m) (pos 0) = to_z-of_z w32 _ (record { sfits = c.from.type_inv }) ∙ c.from.ensures ∙ search rules in
      c.mul_add_n-even.ensures k ∙ ap (λ z. g.L.Lanes.lane c.mul_n-a.result k +ℤ g.L.Lanes.lane c.index-c-2.result k *ℤ z) e

  odd_is : g.L.Lanes.lane c.mul_add_n-odd.result k ≡ odd c.loop-m.m
  odd_is =
      let e : to_z w32 (of_z w32 c.from-in-loop-m-2.result) ≡ get_or c.args.t.now (c.args.h + c.args.h + c.loop-m.m) (pos 0) = to_z-of_z w32 _ (record { sfits = c.from-in-loop-m-2.type_inv }) ∙ c.from-in-loop-m-2.ensures ∙ search rules in
      c.mul_add_n-odd.ensures k ∙ ap (λ z. z +ℤ g.L.Lanes.lane c.index-c-3.result k *ℤ to_z w32 (of_z w32 c.from-in-loop-m-2.result)) (near-is g c.before k)
      ∙ ap (λ z. g.L.Lanes.lane c.index-c-1.result k *ℤ get_or c.args.t.now c.loop-m.m (pos 0) +ℤ g.L.Lanes.lane c.index-c-3.result k *ℤ z) e

  even-size : nat_abs (even c.loop-m.m) ≤ 2 ^ 27
  even-size = sum-size (g.L.Lanes.lane c.index-c-2.result k) (get_or c.args.t.now (c.args.h + c.loop-m.m) (pos 0)) (input-size g.L.Lanes.lane c.args.c.now c.requires.1.0 c.requires.1.1 {i = 2} (omega arith) c.index-c-2.is k) (head-small c.requires.0 (c.args.h + c.loop-m.m)) (g.L.Lanes.lane c.mul_n-a.result k) (first-size g.L.Lanes.lane c.args.c.now c.requires.1.0 c.requires.1.1 {i = 0} (omega arith) c.index-c-0.is k (c.mul_n-a.ensures k))

  odd-size : nat_abs (odd c.loop-m.m) ≤ 2 ^ 27
  odd-size =
      sum-size (g.L.Lanes.lane c.index-c-3.result k) (get_or c.args.t.now (c.args.h + c.args.h + c.loop-m.m) (pos 0)) (input-size g.L.Lanes.lane c.args.c.now c.requires.1.0 c.requires.1.1 {i = 3} (omega arith) c.index-c-3.is k) (head-small c.requires.0 (c.args.h + c.args.h + c.loop-m.m)) (g.L.Lanes.lane c.index-c-1.result k *ℤ (get_or c.args.t.now (c.loop-m.m) (pos 0)))
      (prod-size (g.L.Lanes.lane c.index-c-1.result k) (get_or c.args.t.now (c.loop-m.m) (pos 0)) (input-size g.L.Lanes.lane c.args.c.now c.requires.1.0 c.requires.1.1 {i = 1} (omega arith) c.index-c-1.is k) (head-small c.requires.0 (c.loop-m.m)))

-- their place, and its mirror
module _ (h m : ℕ) (even odd : ℕ → ℤ) (taken : m < h) where
  far : h ≤ h + h - 1 - m
  far = omega arith

  mirrored : h + h - 1 - (h + h - 1 - m) ≡ m
  mirrored = omega arith

  sum : even m +ℤ odd m ≡ fold_at h even odd m
  sum = sym (fold-low h even odd m taken)

  difference : even m -ℤ odd m ≡ fold_at h even odd (h + h - 1 - m)
  difference = sym (fold-high h even odd (h + h - 1 - m) far ∙ ap (λ j. even j -ℤ odd j) mirrored)

pub add-requires : goal.add-requires
add-requires g c k = both-fit (even_is g c k) (odd_is g c k) (even-size g c k) (odd-size g c k)

pub sub-requires : goal.sub-requires
sub-requires g c k = let d = c.before in less-fit (even_is g d k) (odd_is g d k) (even-size g d k) (odd-size g d k)

pub loop-m-preserved : goal.loop-m-preserved
loop-m-preserved g c =
    let d = c.before.before in
    fold_more g.L.Lanes.lane {f = λ k. fold_at c.args.h (even g d k) (odd g d k)} c.loop-m.invariant c.loop-m-test.true
    (λ k. c.add.ensures k ∙ (λ i. even_is g d k i +ℤ odd_is g d k i) ∙ sum c.args.h c.loop-m.m (even g d k) (odd g d k) c.loop-m-test.true)
    (λ k. c.sub.ensures k ∙ (λ i. even_is g d k i -ℤ odd_is g d k i) ∙ difference c.args.h c.loop-m.m (even g d k) (odd g d k) c.loop-m-test.true)

pub returns : goal.returns
returns g c k =
    let at = g.L.Lanes.lane in
    let h = c.args.h in
    let t = c.args.t.now in
    let ys = col at k c.args.c.now in
    let e0 = input at c.args.c.now c.requires.1.0 c.requires.1.1 {i = 0} (omega arith) c.index-c-0.is k in
    let e1 = input at c.args.c.now c.requires.1.0 c.requires.1.1 {i = 1} (omega arith) c.index-c-1.is k in
    let e2 = input at c.args.c.now c.requires.1.0 c.requires.1.1 {i = 2} (omega arith) c.index-c-2.is k in
    let e3 = input at c.args.c.now c.requires.1.0 c.requires.1.1 {i = 3} (omega arith) c.index-c-3.is k in
    let a = c.mul_n-a.ensures k ∙ ap (λ z. z *ℤ pos 64) e0 in
    let four : length ys ≤ 4 = omega (arith, col-length at k c.args.c.now, c.requires.1.0) in
    fold_done at {f = λ l. fold_at h (evens at h t c.mul_n-a.result c.index-c-2.result l) (odds at h t c.index-c-1.result c.index-c-3.result l)} c.loop-m.invariant c.loop-m-test.false k
    ∙ (λ i. tab (h + h) (fold_at h (λ j. a i +ℤ e2 i *ℤ get_or t (h + j) (pos 0)) (λ j. e1 i *ℤ get_or t j (pos 0) +ℤ e3 i *ℤ get_or t (h + h + j) (pos 0))))
    ∙ subst (λ (zs : List ℤ). tab (h + h) (fold_at h (even_at h t zs) (odd_at h t zs)) ≡ dense_c (h + h) (dct_table (h + h)) zs) (first-all 4 ys four) (head-left c.requires.0 4 ys (lit≤ tt))
