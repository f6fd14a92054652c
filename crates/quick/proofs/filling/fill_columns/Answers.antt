-- `quick::filling::fill_columns` meets its contract: one group of columns, or two side by side. Assumes nothing.
use mathlib.Core.Path.{◌≡◌, sym, ap, subst}
use Prim.Native.Nat.{ℕ, ◌+◌, ◌*◌, ◌/◌, ◌^◌, ◌≤◌, ◌<◌, zero-le}
use native.Mathlib.Nat as N
use native.Mathlib.Omega.{arith}
use lib.Ieee.{Float}
use lib.IntN.{pos, nat_abs}
use lib.ListN.{get_or}
use Rattle.whole.specs.Grid.{cols_by}
use Rattle.wide_rows.specs.Lines.{Sized}
use Rattle.narrow.specs.Painted.{Painted}
use Rattle.narrow.proofs.Paints.{paint-beside}
use Rattle.fast.specs.Groups.{dct_of}
use Rattle.fast.specs.Gains.{residual_by, gains_of, Shown, twice, group_of}
use Rattle.fast.proofs.Gained.{side-sized, side-below, side-twice, side-some, narrow-side, Halved, half-side, left-columns, right-columns, shown-half}
use Rattle.pixels.specs.Pixels.{pixel_f}
use Rattle.quick.proofs.filling.fill_columns.Goals as goal
use Rattle.quick.proofs.filling.fill_columns.Lts as lts
use Rattle.quick.proofs.filling.fill_columns.Reads as reads
use Rattle.quick.proofs.filling.fill_columns.Tie as tie

abbrev Start : Type 0
Start = lts.Start tie.the-claims reads.Pre reads.Post tie.handed_clauses

abbrev Else-sw-le16 : Type 0
Else-sw-le16 = lts.Else1 tie.the-claims reads.Pre reads.Post tie.handed_clauses

module _ (s : Start) where
  sized : Sized s.args.sh
  sized = subst Sized (sym s.requires.side.3) (side-sized s.requires.side.1)

  some : 0 < s.args.sw
  some = subst (λ (n : ℕ). 0 < n) (sym s.requires.side.2) (N.lt_of_le_of_lt zero-le (side-below s.requires.side.0 0 (side-some s.requires.side.0)))

  across : s.args.across ≤ 1
  across = subst (λ (n : ℕ). n ≤ 1) (sym s.requires.side.4) (side-twice s.requires.side.0)

  down : s.args.down ≤ 1
  down = subst (λ (n : ℕ). n ≤ 1) (sym s.requires.side.5) (side-twice s.requires.side.1)

  below : (y : ℕ) → y < s.args.h → y / 2 ^ s.args.down < s.args.sh
  below y l = subst (λ (d : ℕ). y / 2 ^ d < s.args.sh) (sym s.requires.side.5) (subst (λ (n : ℕ). y / 2 ^ twice s.args.h < n) (sym s.requires.side.3) (side-below s.requires.side.1 y l))

  first : s.args.sw ≤ 16 → (x : ℕ) → x < s.args.w → x / 2 ^ s.args.across < 16
  first h x l = subst (λ (d : ℕ). x / 2 ^ d < 16) (sym s.requires.side.4) (narrow-side s.requires.side.0 (subst (λ (n : ℕ). n ≤ 16) s.requires.side.2 h) x l)

  -- what a place holds
  rule : ℕ → ℕ → Float
  rule y x = pixel_f (gains_of s.args.pred.now 0 s.args.w (residual_by s.args.shift s.args.across s.args.down (cols_by (dct_of s.args.sh) s.args.sh (group_of s.args.sh s.args.work.now))) y x)

module _ (c : Else-sw-le16) where
  abbrev start : Start
  start = c.before.before

  abbrev g : ℕ
  g = start.args.w / 2

  halves : Halved start.args.w
  halves = half-side start.requires.side.0 (λ h. N.lt_irrefl 16 (N.lt_of_lt_of_le c.if-sw-le16.false (subst (λ (n : ℕ). n ≤ 16) (sym start.requires.side.2) h)))

  half : (x : ℕ) → x < g → x / 2 ^ start.args.across < 16
  half x l = subst (λ (d : ℕ). x / 2 ^ d < 16) (sym start.requires.side.4) (halves.first x l)

  other : (x : ℕ) → (g + x) / 2 ^ start.args.across ≡ 16 + x / 2 ^ start.args.across
  other x = subst (λ (d : ℕ). (g + x) / 2 ^ d ≡ 16 + x / 2 ^ d) (sym start.requires.side.4) (halves.second x)

  larger : 16 * 1 < start.args.sw
  larger = c.if-sw-le16.false

  -- the second half of the predictions
  beside : Shown g start.args.w g start.args.h start.args.pred.now
  beside = record {
    wide = omega (arith, halves.both);
    inside = λ y l. omega (arith, start.requires.side.7.inside y l, halves.both);
    small = λ y x l m. subst (λ (i : ℕ). nat_abs (get_or start.args.pred.now i (pos 0)) ≤ 4096) (sym (at (y * start.args.w) x)) (start.requires.side.7.small y (g + x) l (omega (arith, halves.both)));
  }
    where
      at : (a x : ℕ) → g + a + x ≡ 0 + a + (g + x)
      at a x = omega arith

  place : (y x : ℕ) → get_or start.args.pred.now (g + y * start.args.w + x) (pos 0) ≡ get_or start.args.pred.now (0 + y * start.args.w + (g + x)) (pos 0)
  place y x = ap (λ i. get_or start.args.pred.now i (pos 0)) (at (y * start.args.w) x)
    where
      at : (a x : ℕ) → g + a + x ≡ 0 + a + (g + x)
      at a x = omega arith

pub fill_strip-requires : goal.fill_strip-requires
fill_strip-requires c =
    record {
      shown = (c.requires.side.7, c.requires.side.8, across c.before.before.before.before, down c.before.before.before.before, c.requires.side.6, first c.before.before.before.before c.if-sw-le16.true, below c.before.before.before.before);
      sized = (sized c.before.before.before.before, c.requires.area.0 0 (some c.before.before.before.before), c.requires.area.1, λ l j a b d. c.requires.area.2 0 l j a (some c.before.before.before.before) b d);
    }

pub fill_strip-requires-else-sw-le16 : goal.fill_strip-requires-else-sw-le16
fill_strip-requires-else-sw-le16 c =
    record {
      shown = (shown-half c.requires.side.7 (halves c.before.before).both, (λ y l. omega (arith, c.requires.side.8 y l, (halves c.before.before).both)), across c.before.before.before.before, down c.before.before.before.before, c.requires.side.6, half c.before.before, below c.before.before.before.before);
      sized = (sized c.before.before.before.before, c.requires.area.0 0 (some c.before.before.before.before), c.requires.area.1, λ l j a b d. c.requires.area.2 0 l j a (some c.before.before.before.before) b d);
    }

pub fill_strip-requires-else-sw-le16-2 : goal.fill_strip-requires-else-sw-le16-2
fill_strip-requires-else-sw-le16-2 c =
    record {
      shown = (beside c.before.before.before.before.before.before.before.before, (λ y l. omega (arith, c.requires.side.8 y l, (halves c.before.before.before.before.before.before.before.before).both, c.fill_strip-else-sw-le16.ensures.long)), across c.before.before.before.before.before.before.before.before.before.before, down c.before.before.before.before.before.before.before.before.before.before, c.requires.side.6, half c.before.before.before.before.before.before.before.before, below c.before.before.before.before.before.before.before.before.before.before);
      sized = (sized c.before.before.before.before.before.before.before.before.before.before, c.requires.area.0 1 (larger c.before.before.before.before.before.before.before.before), omega (arith, c.requires.area.1, c.fill_strip-else-sw-le16.auto.res), λ l j a b d. c.requires.area.2 1 l j a (larger c.before.before.before.before.before.before.before.before) b d);
    }

pub returns-then-sw-le16 : goal.returns-then-sw-le16
returns-then-sw-le16 c =
    left-columns (pixel_f (pos 0)) pixel_f c.args.pred.now c.args.w c.args.h c.args.shift c.args.across c.args.down c.args.sh c.args.work.now c.args.w (first c.before.before.before.before.before.before.before.before.before c.if-sw-le16.true) c.fill_strip.ensures

pub returns-else-sw-le16 : goal.returns-else-sw-le16
unfolding rule
returns-else-sw-le16 c =
    let n = c.fill_strip-else-sw-le16 in
    let m = c.fill_strip-else-sw-le16-2 in
    subst (λ (w : ℕ). Painted (pixel_f (pos 0)) 0 c.args.w w c.args.h (rule c.before.before.before.before.before.before.before.before.before.before.before.before.before.before.before) c.args.out.now m.new.out) (halves c.before.before.before.before.before.before.before.before.before.before.before.before.before).both
    (paint-beside {f = rule c.before.before.before.before.before.before.before.before.before.before.before.before.before.before.before} (left-columns (pixel_f (pos 0)) pixel_f c.args.pred.now c.args.w c.args.h c.args.shift c.args.across c.args.down c.args.sh c.args.work.now (g c.before.before.before.before.before.before.before.before.before.before.before.before.before) (half c.before.before.before.before.before.before.before.before.before.before.before.before.before) n.ensures)
    (right-columns (pixel_f (pos 0)) pixel_f c.args.pred.now c.args.w c.args.h c.args.shift c.args.across c.args.down c.args.sh c.args.work.now (g c.before.before.before.before.before.before.before.before.before.before.before.before.before) (half c.before.before.before.before.before.before.before.before.before.before.before.before.before) c.args.pred.now (λ y x l. place c.before.before.before.before.before.before.before.before.before.before.before.before.before y x) (other c.before.before.before.before.before.before.before.before.before.before.before.before.before) m.ensures)
    (omega arith) (omega (arith, (halves c.before.before.before.before.before.before.before.before.before.before.before.before.before).both)))
