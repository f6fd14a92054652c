-- `quick_bytes::columns::columns` meets its contract: one group of columns, or two side by side. Assumes nothing.
use mathlib.Core.Path.{◌≡◌, refl, sym, subst}
use Prim.Native.Nat.{ℕ, ◌*◌, ◌<◌}
use native.Mathlib.Nat as N
use native.Mathlib.Omega.{arith}
use Rattle.whole.specs.Grid.{cols_by}
use Rattle.narrow.specs.Painted.{Painted}
use Rattle.narrow.proofs.Paints.{paint-beside}
use Rattle.fast.specs.Groups.{dct_of}
use Rattle.fast.specs.Gains.{group_of}
use Rattle.quick_bytes.specs.Held.{Held, reached_of}
use Rattle.quick_bytes.proofs.Reached.{held-group, held-second, second-bytes, left-bytes, right-bytes, sized-some, sized-two}
use Rattle.quick_bytes.proofs.columns.columns.Goals as goal
use Rattle.quick_bytes.proofs.columns.columns.Lts as lts
use Rattle.quick_bytes.proofs.columns.columns.Reads as reads
use Rattle.quick_bytes.proofs.columns.columns.Tie as tie

abbrev Start : Type 0
Start = lts.Start tie.the-claims reads.Pre reads.Post tie.handed_clauses

abbrev Else-w-le16 : Type 0
Else-w-le16 = lts.Else1 tie.the-claims reads.Pre reads.Post tie.handed_clauses

abbrev After-strip-else-w-le16 : Type 0
After-strip-else-w-le16 = lts.After-strip2 tie.the-claims reads.Pre reads.Post tie.handed_clauses

module _ (s : Start) where
  some : 0 < s.args.w
  some = sized-some s.requires.held.1

  -- what a byte becomes
  rule : ℕ → ℕ → ℕ
  rule = reached_of s.args.dst.now 0 s.args.stride s.args.shift (cols_by (dct_of s.args.h) s.args.h (group_of s.args.h s.args.work.now))

module _ (c : Else-w-le16) where
  abbrev start : Start
  start = c.before.before

  two : start.args.w ≡ 32
  two = sized-two start.requires.held.1 c.if-w-le16.false

  held : Held 0 start.args.stride 32 start.args.h start.args.dst.now
  held = subst (λ (n : ℕ). Held 0 start.args.stride n start.args.h start.args.dst.now) two start.requires.held.0

  larger : 16 * 1 < start.args.w
  larger = c.if-w-le16.false

left-group : (c : After-strip-else-w-le16) → Painted 0 0 (start c.before.before.before).args.stride 16 (start c.before.before.before).args.h (rule (start c.before.before.before)) (start c.before.before.before).args.dst.now c.strip-else-w-le16.new.dst
unfolding rule
left-group c =
    let s = start c.before.before.before in
    left-bytes s.args.dst.now s.args.stride s.args.h s.args.shift s.args.work.now (N.le_refl 16) c.strip-else-w-le16.ensures

pub strip-requires : goal.strip-requires
strip-requires c =
    record {
      held = (c.requires.held.0, c.if-w-le16.true, c.requires.held.3);
      sized = (c.requires.held.2, c.requires.area.0 0 (some c.before.before.before.before), c.requires.area.1, λ l j a b d. c.requires.area.2 0 l j a (some c.before.before.before.before) b d);
    }

pub strip-requires-else-w-le16 : goal.strip-requires-else-w-le16
strip-requires-else-w-le16 c =
    record {
      held = (held-group (held c.before.before), N.le_refl 16, c.requires.held.3);
      sized = (c.requires.held.2, c.requires.area.0 0 (some c.before.before.before.before), c.requires.area.1, λ l j a b d. c.requires.area.2 0 l j a (some c.before.before.before.before) b d);
    }

pub strip-requires-else-w-le16-2 : goal.strip-requires-else-w-le16-2
strip-requires-else-w-le16-2 c =
    record {
      held = (held-second (held c.before.before.before.before.before.before.before.before) (left-group c.before.before.before.before.before), N.le_refl 16, c.requires.held.3);
      sized = (c.requires.held.2, c.requires.area.0 1 (larger c.before.before.before.before.before.before.before.before), omega (arith, c.requires.area.1, c.strip-else-w-le16.auto.res), λ l j a b d. c.requires.area.2 1 l j a (larger c.before.before.before.before.before.before.before.before) b d);
    }

pub returns-then-w-le16 : goal.returns-then-w-le16
returns-then-w-le16 c =
    left-bytes c.args.dst.now c.args.stride c.args.h c.args.shift c.args.work.now c.if-w-le16.true c.strip.ensures

pub returns-else-w-le16 : goal.returns-else-w-le16
unfolding rule
returns-else-w-le16 c =
    let m = c.strip-else-w-le16-2 in
    subst (λ (w : ℕ). Painted 0 0 c.args.stride w c.args.h (rule c.before.before.before.before.before.before.before.before.before.before.before.before.before.before.before) c.args.dst.now m.new.dst) (sym (two c.before.before.before.before.before.before.before.before.before.before.before.before.before))
    (paint-beside {f = rule c.before.before.before.before.before.before.before.before.before.before.before.before.before.before.before} (left-group c.before.before.before.before.before.before.before.before.before.before)
    (right-bytes c.args.dst.now c.args.stride c.args.h c.args.shift c.args.work.now (second-bytes (held c.before.before.before.before.before.before.before.before.before.before.before.before.before) (left-group c.before.before.before.before.before.before.before.before.before.before)) m.ensures)
    refl (held c.before.before.before.before.before.before.before.before.before.before.before.before.before).wide)
