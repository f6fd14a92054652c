-- `fast::columns::columns` meets its contract: one group of columns, or two side by side. Assumes nothing.
use mathlib.Core.Path.{◌≡◌, sym, subst}
use Prim.Native.Nat.{ℕ, ◌+◌, ◌*◌, ◌/◌, ◌^◌, ◌≤◌, ◌<◌, zero-le}
use native.Mathlib.Nat as N
use native.Mathlib.Omega.{arith}
use lib.IntN.{ℤ, pos}
use Rattle.whole.specs.Grid.{cols_by}
use Rattle.wide_rows.specs.Lines.{Sized}
use Rattle.narrow.specs.Painted.{Painted}
use Rattle.narrow.proofs.Paints.{paint-beside}
use Rattle.fast.specs.Groups.{dct_of}
use Rattle.fast.specs.Gains.{twice, residual_by, gains_of, group_of}
use Rattle.fast.proofs.Gained.{side-sized, side-below, side-twice, narrow-side, Halved, half-side, left-columns, right-columns, shown-half, second-now, shown-second, side-some}
use Rattle.fast.proofs.columns.columns.Goals as goal
use Rattle.fast.proofs.columns.columns.Lts as lts
use Rattle.fast.proofs.columns.columns.Reads as reads
use Rattle.fast.proofs.columns.columns.Tie as tie

abbrev Start : Type 0
Start = lts.Start tie.the-claims reads.Pre reads.Post tie.handed_clauses

abbrev Else-sw-le16 : Type 0
Else-sw-le16 = lts.Else1 tie.the-claims reads.Pre reads.Post tie.handed_clauses

abbrev After-strip-else-sw-le16 : Type 0
After-strip-else-sw-le16 = lts.After-strip2 tie.the-claims reads.Pre reads.Post tie.handed_clauses

module _ (s : Start) where
  sized : Sized s.args.sh
  sized = subst Sized (sym s.requires.side.3) (side-sized s.requires.side.1)

  some : 0 < s.args.sw
  some = subst (λ (n : ℕ). 0 < n) (sym s.requires.side.2) (N.lt_of_le_of_lt zero-le (side-below s.requires.side.0 0 (side-some s.requires.side.0)))

  across : s.args.across ≤ 1
  across = subst (λ (n : ℕ). n ≤ 1) (sym s.requires.side.4) (side-twice s.requires.side.0)

  down : s.args.down ≤ 1
  down = subst (λ (n : ℕ). n ≤ 1) (sym s.requires.side.5) (side-twice s.requires.side.1)

  below : (y : ℕ) → y < s.args.h → y / 2 ^ s.args.down < s.args.sh
  below y l = subst (λ (d : ℕ). y / 2 ^ d < s.args.sh) (sym s.requires.side.5) (subst (λ (n : ℕ). y / 2 ^ twice s.args.h < n) (sym s.requires.side.3) (side-below s.requires.side.1 y l))

  first : s.args.sw ≤ 16 → (x : ℕ) → x < s.args.w → x / 2 ^ s.args.across < 16
  first h x l = subst (λ (d : ℕ). x / 2 ^ d < 16) (sym s.requires.side.4) (narrow-side s.requires.side.0 (subst (λ (n : ℕ). n ≤ 16) s.requires.side.2 h) x l)

  -- what a sample gains
  rule : ℕ → ℕ → ℤ
  rule = gains_of s.args.dst.now 0 s.args.stride (residual_by s.args.shift s.args.across s.args.down (cols_by (dct_of s.args.sh) s.args.sh (group_of s.args.sh s.args.work.now)))

module _ (c : Else-sw-le16) where
  abbrev start : Start
  start = c.before

  abbrev g : ℕ
  g = start.args.w / 2

  halves : Halved start.args.w
  halves = half-side start.requires.side.0 (λ h. N.lt_irrefl 16 (N.lt_of_lt_of_le c.if-sw-le16.false (subst (λ (n : ℕ). n ≤ 16) (sym start.requires.side.2) h)))

  half : (x : ℕ) → x < g → x / 2 ^ start.args.across < 16
  half x l = subst (λ (d : ℕ). x / 2 ^ d < 16) (sym start.requires.side.4) (halves.first x l)

  other : (x : ℕ) → (g + x) / 2 ^ start.args.across ≡ 16 + x / 2 ^ start.args.across
  other x = subst (λ (d : ℕ). (g + x) / 2 ^ d ≡ 16 + x / 2 ^ d) (sym start.requires.side.4) (halves.second x)

  larger : 16 * 1 < start.args.sw
  larger = c.if-sw-le16.false

left-group : (c : After-strip-else-sw-le16) → Painted (pos 0) 0 (start c.before.before.before).args.stride (g c.before.before.before) (start c.before.before.before).args.h (rule (start c.before.before.before)) (start c.before.before.before).args.dst.now c.strip-else-sw-le16.new.dst
unfolding rule
left-group c =
    let s = start c.before.before.before in
    left-columns (pos 0) (λ z. z) s.args.dst.now s.args.stride s.args.h s.args.shift s.args.across s.args.down s.args.sh s.args.work.now (g c.before.before.before) (half c.before.before.before) c.strip-else-sw-le16.ensures

pub strip-requires : goal.strip-requires
strip-requires c =
    record {
      shown = (c.requires.side.7, across c.before.before.before, down c.before.before.before, c.requires.side.6, first c.before.before.before c.if-sw-le16.true, below c.before.before.before);
      sized = (sized c.before.before.before, c.requires.area.0 0 (some c.before.before.before), c.requires.area.1, λ l j a b d. c.requires.area.2 0 l j a (some c.before.before.before) b d);
    }

pub strip-requires-else-sw-le16 : goal.strip-requires-else-sw-le16
strip-requires-else-sw-le16 c =
    record {
      shown = (shown-half c.requires.side.7 (halves c.before.before).both, across c.before.before.before, down c.before.before.before, c.requires.side.6, half c.before.before, below c.before.before.before);
      sized = (sized c.before.before.before, c.requires.area.0 0 (some c.before.before.before), c.requires.area.1, λ l j a b d. c.requires.area.2 0 l j a (some c.before.before.before) b d);
    }

pub strip-requires-else-sw-le16-2 : goal.strip-requires-else-sw-le16-2
strip-requires-else-sw-le16-2 c =
    record {
      shown = (shown-second c.requires.side.7 (halves c.before.before.before.before.before.before.before).both (left-group c.before.before.before.before), across c.before.before.before.before.before.before.before.before, down c.before.before.before.before.before.before.before.before, c.requires.side.6, half c.before.before.before.before.before.before.before, below c.before.before.before.before.before.before.before.before);
      sized = (sized c.before.before.before.before.before.before.before.before, c.requires.area.0 1 (larger c.before.before.before.before.before.before.before), omega (arith, c.requires.area.1, c.strip-else-sw-le16.auto.out), λ l j a b d. c.requires.area.2 1 l j a (larger c.before.before.before.before.before.before.before) b d);
    }

pub returns-then-sw-le16 : goal.returns-then-sw-le16
returns-then-sw-le16 c =
    left-columns (pos 0) (λ z. z) c.args.dst.now c.args.stride c.args.h c.args.shift c.args.across c.args.down c.args.sh c.args.work.now c.args.w (first c.before.before.before.before.before.before c.if-sw-le16.true) c.strip.ensures

pub returns-else-sw-le16 : goal.returns-else-sw-le16
unfolding rule
returns-else-sw-le16 c =
    subst (λ (w : ℕ). Painted (pos 0) 0 c.args.stride w c.args.h (rule c.before.before.before.before.before.before.before.before.before.before.before) c.args.dst.now c.strip-else-sw-le16-2.new.dst) (halves c.before.before.before.before.before.before.before.before.before.before).both
    (paint-beside {f = rule c.before.before.before.before.before.before.before.before.before.before.before} (left-group c.before.before.before.before.before.before.before)
    (right-columns (pos 0) (λ z. z) c.args.dst.now c.args.stride c.args.h c.args.shift c.args.across c.args.down c.args.sh c.args.work.now (g c.before.before.before.before.before.before.before.before.before.before) (half c.before.before.before.before.before.before.before.before.before.before) c.strip-else-sw-le16.new.dst (second-now c.requires.side.7 (halves c.before.before.before.before.before.before.before.before.before.before).both (left-group c.before.before.before.before.before.before.before)) (other c.before.before.before.before.before.before.before.before.before.before) c.strip-else-sw-le16-2.ensures)
    (omega arith) (omega (arith, c.requires.side.7.wide, (halves c.before.before.before.before.before.before.before.before.before.before).both)))
