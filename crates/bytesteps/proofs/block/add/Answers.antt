-- `bytesteps::block::add` meets its contract: at k, the first k bytes have gained their numbers. Assumes nothing.
use mathlib.Core.Path.{◌≡◌, refl, sym, ap, ◌∙◌, subst}
use mathlib.Core.List.{List, map}
use Prim.Native.Nat.{ℕ, ◌<◌}
use native.Mathlib.Omega.{arith}
use lib.Dec.{lit≤}
use lib.IntN.{ℤ, pos, nat_abs, ◌+ℤ◌}
use lib.ListN.{length, get_or, set, length-map, get_or-map}
use mir.Syntax.{w32}
use mir.Val.{to_z, of_z}
use mir.ValLaws.{to_z-of_z}
use Rattle.whole.specs.Sums.{item}
use Rattle.whole.specs.Search.{cell_at}
use Rattle.whole.proofs.Cells.{cell_apart}
use Rattle.octets.specs.Octets.{is_byte}
use Rattle.octets.proofs.Lists.{numbers-back, map-set}
use Rattle.lossless.specs.Gains.{add_on, gain}
use Rattle.lossless.proofs.Adding.{cell_lies}
use Rattle.lossless.proofs.Gains.{length-add_on, still, add_on-next, gain-start}
use Rattle.bytesteps.proofs.block.add.Goals as goal
use Rattle.bytesteps.proofs.block.add.Lts as lts
use Rattle.bytesteps.proofs.block.add.Reads as reads
use Rattle.bytesteps.proofs.block.add.Tie as tie

abbrev Start : Type 0
Start = lts.Start tie.the-claims reads.Pre reads.Post goal.the-invariant-loop-k goal.the-decreases-loop-k tie.handed_clauses

abbrev After-raised-arg : Type 0
After-raised-arg = lts.After-raised-arg tie.the-claims reads.Pre reads.Post goal.the-invariant-loop-k goal.the-decreases-loop-k tie.handed_clauses

abbrev After-spot_of-i : Type 0
After-spot_of-i = lts.After-spot_of tie.the-claims reads.Pre reads.Post goal.the-invariant-loop-k goal.the-decreases-loop-k tie.handed_clauses

-- the indices, the numbers, and the plane of the same values, as it was and after k gains
module _ (s : Start) where
  abbrev Cell : ℕ → ℕ
  Cell = cell_at s.args.start s.args.stride 4

  abbrev G : ℕ → ℤ
  G = item s.args.gains.now

  abbrev Wide : List ℤ
  Wide = map pos s.args.plane.now

  abbrev Now : ℕ → List ℤ
  Now k = add_on (gain Cell G k) Wide

  now-length : (k : ℕ) → length (map nat_abs (Now k)) ≡ length s.args.plane.now
  now-length k = length-map (Now k) nat_abs ∙ length-add_on (gain Cell G k) Wide ∙ length-map s.args.plane.now pos

module _ (c : goal.In-loop-k) where
  -- the next index lies in the plane, and is none of those before it
  lies : let s = c.before.before.before in Cell s c.loop-k.k < length s.args.plane.now
  lies = let s = c.before.before.before in cell_lies s.args.start s.args.stride (length s.args.plane.now) s.requires.stride_in_bounds.0 c.loop-k.k (omega arith)

  fresh : (j : ℕ) → j < c.loop-k.k → let s = c.before.before.before in Cell s j ≡ Cell s c.loop-k.k → ⊥
  fresh j h e = let s = c.before.before.before in omega (arith, cell_apart s.args.start s.args.stride 4 (lit≤ tt) s.requires.stride_in_bounds.2 j c.loop-k.k e)

  gains-at : c.loop-k.k < length c.args.gains.now
  gains-at = omega (arith, c.requires.stride_in_bounds.1.count)

module _ (c : After-spot_of-i) where
  in-plane : c.spot_of-i.result < length c.loop-k.plane
  in-plane =
      let l = c.before.before in
      let s = l.before.before in
      rw c.spot_of-i.ensures (subst (λ (n : ℕ). Cell s l.loop-k.k < n) (sym (ap length l.loop-k.invariant ∙ now-length s l.loop-k.k)) (lies c.before))

  -- the byte there is as it was
  here : let l = c.before.before in let s = l.before.before in pos (get_or l.loop-k.plane c.spot_of-i.result 0) ≡ item (Wide s) (Cell s l.loop-k.k)
  here =
      let l = c.before.before in
      let s = l.before.before in
      let k = l.loop-k.k in
      let p = s.args.plane.now in
      ap (λ i. pos (get_or l.loop-k.plane i 0)) c.spot_of-i.ensures
      ∙ ap (λ x. pos (get_or x (Cell s k) 0)) l.loop-k.invariant
      ∙ ap pos (get_or-map nat_abs (Now s k) (Cell s k) (pos 0) ∙ ap nat_abs (still (Cell s) (G s) k (Wide s) (fresh c.before) ∙ get_or-map pos p (Cell s k) 0))
      ∙ sym (get_or-map pos p (Cell s k) 0)

-- the sum, as the code has it
sum_is : (c : After-raised-arg) → let d = c.before.before in let l = d.before.before in let s = l.before.before in
    pos (get_or l.loop-k.plane d.spot_of-i.result 0) +ℤ to_z w32 (of_z w32 (get_or s.args.gains.now l.loop-k.k (pos 0))) ≡ item (Wide s) (Cell s l.loop-k.k) +ℤ G s l.loop-k.k
sum_is c =
    let d = c.before.before in
    let l = d.before.before in
    let s = l.before.before in
    ap (λ z. pos (get_or l.loop-k.plane d.spot_of-i.result 0) +ℤ z) (to_z-of_z w32 (G s l.loop-k.k) (record { sfits = c.raised-arg-1.given })) ∙ ap (λ z. z +ℤ G s l.loop-k.k) (here d)

pub loop-k-init : goal.loop-k-init
loop-k-init c =
    let s = c.before.before in
    sym (numbers-back s.args.plane.now) ∙ ap (map nat_abs) (gain-start (Wide s) (G s) (Cell s))

pub spot_of-i-requires : goal.spot_of-i-requires
spot_of-i-requires c = let s = c.before.before.before in (omega arith, omega (arith, s.requires.stride_in_bounds.0, s.well_formed.0.0))

pub bounds-plane-i : goal.bounds-plane-i
bounds-plane-i c = in-plane c.before.before

pub bounds-gains-k : goal.bounds-gains-k
bounds-gains-k c = gains-at c.before.before.before

pub raised-requires : goal.raised-requires
raised-requires c =
    let i = c.before.before.before.before in
    let s = i.before.before.before in
    let k = i.loop-k.k in
    record {
      e_value = ap is_byte (sum_is c.before) ∙ s.requires.by_index k (omega arith);
      e_bound = rw (to_z-of_z w32 (G s k) (record { sfits = c.raised-arg-1.given })) (s.requires.stride_in_bounds.1.small k (gains-at i));
    }

pub bounds-plane-i-in-loop-k : goal.bounds-plane-i-in-loop-k
bounds-plane-i-in-loop-k c = in-plane c.before.before.before

pub loop-k-preserved : goal.loop-k-preserved
loop-k-preserved c =
    let a = c.before in
    let d = a.before.before in
    let l = d.before.before in
    let s = l.before.before in
    let k = l.loop-k.k in
    let y = item (Wide s) (Cell s k) +ℤ G s k in
    ap (λ z. set l.loop-k.plane d.spot_of-i.result z) (c.raised.ensures ∙ ap nat_abs (sum_is a))
    ∙ ap (λ i. set l.loop-k.plane i (nat_abs y)) d.spot_of-i.ensures
    ∙ ap (λ x. set x (Cell s k) (nat_abs y)) l.loop-k.invariant
    ∙ sym (map-set nat_abs (Now s k) (Cell s k) y)
    ∙ ap (map nat_abs) (add_on-next (Cell s) (G s) k (Wide s) (fresh d.before) (subst (λ (n : ℕ). Cell s k < n) (sym (length-map s.args.plane.now pos)) (lies d.before)) refl)

pub shape_of-plane : goal.shape_of-plane
shape_of-plane c = let l = c.before in ap length l.loop-k.invariant ∙ now-length l.before.before l.loop-k.k

pub returns : goal.returns
returns c =
    let l = c.before in
    l.loop-k.invariant ∙ ap (λ (n : ℕ). map nat_abs (Now l.before.before n)) (omega arith)
