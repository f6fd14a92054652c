-- `folding_code::fold::member` meets its contract: one more step of a sum, or none. Assumes nothing.
use mathlib.Core.Path.{◌≡◌, sym, ap, ◌∙◌, subst}
use Prim.Native.Nat.{ℕ, suc, ◌+◌, ◌*◌, ◌-◌}
use native.Mathlib.Omega.{arith}
use native.Mathlib.Nat.{le_of_lt}
use lib.IntN.{pos, ◌+ℤ◌}
use lib.ListN.{take, drop}
use Rattle.whole.specs.Sums.{tab, item}
use Rattle.whole.proofs.Fill.{tab-same, tab-at}
use Rattle.wht.specs.Wht.{iwht}
use Rattle.wht.specs.Calls.{Sixteen}
use Rattle.remain.specs.Remaining.{levels_at}
use Rattle.folding.specs.Owners.{owner, total, sum_of}
use Rattle.folding.proofs.Owners.{total-more, total-past, sum-in}
use Rattle.folding_code.proofs.fold.member.Goals as goal

pub returns-then-owner-h : goal.returns-then-owner-h
returns-then-owner-h c =
    let w = owner c.args.o.now in
    c.requires.sums.1 ∙ tab-same 16 (total w c.args.l.now c.args.h c.args.j) (total w c.args.l.now c.args.h (suc c.args.j))
    (λ k _. sym (total-past w c.args.l.now c.args.h c.args.j k (λ q. c.if-owner-h.true (c.owner.ensures ∙ q))))

pub add-requires : goal.add-requires
add-requires c =
    let a = 16 * c.args.j in
    let q : a + 16 - a ≡ 16 = omega arith in
    let w = owner c.args.o.now in
    let here = sym c.owner.ensures ∙ c.if-owner-h.false in (
      subst (λ (n : ℕ). Sixteen 262144 (take n (drop a c.args.l.now))) (sym q) (c.requires.sums.0.each c.args.j c.requires.j_lt_n.0 here),
      subst (Sixteen 1048576) (sym c.requires.sums.1) (sum-in w c.args.l.now c.args.h c.args.j (λ k i. c.requires.sums.0.part c.args.j k (le_of_lt c.requires.j_lt_n.0) i)),
    )

pub returns : goal.returns
returns c =
    let a = 16 * c.args.j in
    let q : a + 16 - a ≡ 16 = omega arith in
    let w = owner c.args.o.now in
    let here = sym c.owner.ensures ∙ c.if-owner-h.false in
    c.add.ensures
    ∙ (λ t. tab 16 (λ k. item (c.requires.sums.1 t) k +ℤ item (iwht (take (q t) (drop a c.args.l.now))) k))
    ∙ tab-same 16 (λ k. item (sum_of w c.args.l.now c.args.j c.args.h) k +ℤ item (iwht (levels_at c.args.l.now c.args.j)) k) (total w c.args.l.now c.args.h (suc c.args.j))
    (λ k i. ap (λ z. z +ℤ item (iwht (levels_at c.args.l.now c.args.j)) k) (tab-at (pos 0) 16 (total w c.args.l.now c.args.h c.args.j) k i)
    ∙ sym (total-more w c.args.l.now c.args.h c.args.j k here))
