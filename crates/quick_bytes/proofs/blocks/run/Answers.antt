-- `quick_bytes::blocks::run` meets its contract: the rows, then the columns. Assumes nothing.
use mathlib.Core.Path.{◌≡◌, subst}
use mathlib.Core.List.{List}
use Prim.Native.Nat.{ℕ, ◌*◌, ◌≤◌, ◌<◌}
use native.Mathlib.Omega.{arith}
use lib.IntN.{ℤ, pos}
use Rattle.tables.specs.Sizes.{cut}
use Rattle.wide_rows.specs.Lines.{Sized}
use Rattle.fast.specs.Groups.{Area, cell_of}
use Rattle.fast.proofs.Gained.{side-sized}
use Rattle.byteplanes.proofs.Small.{cut-whole}
use Rattle.quick_bytes.proofs.Reached.{whole-bytes}
use Rattle.quick_bytes.proofs.blocks.run.Goals as goal
use Rattle.quick_bytes.proofs.blocks.run.Lts as lts
use Rattle.quick_bytes.proofs.blocks.run.Reads as reads
use Rattle.quick_bytes.proofs.blocks.run.Tie as tie

abbrev After-ready-live : Type 0
After-ready-live = lts.After-ready tie.the-claims reads.Pre reads.Post tie.handed_clauses

abbrev Start : Type 0
Start = lts.Start tie.the-claims reads.Pre reads.Post tie.handed_clauses

module _ (c : After-ready-live) where
  abbrev s : Start
  s = c.before.before.before.before.before

  wide : cut s.args.w ≡ s.args.w
  wide = cut-whole s.args.w s.requires.3

  high : cut s.args.h ≡ s.args.h
  high = cut-whole s.args.h s.requires.4

  abbrev work : List ℤ
  work = c.ready-live.new.work

  -- what the columns ask of the work area
  Asks : ℕ → ℕ → Type 0
  Asks w h = Area w h work × ((q l j : ℕ) → l < 16 → 16 * q < w → c.ready-live.result ≤ j → j < h → cell_of h work q j l ≡ pos 0)

  asked : Asks s.args.w s.args.h
  unfolding Asks
  asked =
      let m = c.ready-live.ensures in
      subst (λ (n : ℕ). Asks n s.args.h) wide (subst (λ (n : ℕ). Asks (cut s.args.w) n) high (m.area, λ q l j a b d e. m.empty q j l a b d e))

pub ready-live-requires : goal.ready-live-requires
ready-live-requires c = (c.requires.0, c.requires.5)

pub columns-requires : goal.columns-requires
unfolding Asks
columns-requires c =
    record {
      held = (c.requires.2, subst Sized (wide c.before.before.before.before.before) (side-sized c.requires.0.across), subst Sized (high c.before.before.before.before.before) (side-sized c.requires.0.down), c.requires.1);
      area = ((asked c.before.before.before.before.before).0, omega (arith, high c.before.before.before.before.before, c.requires.5.others, c.ready-live.auto.out), (asked c.before.before.before.before.before).1);
    }

pub returns : goal.returns
returns c =
    whole-bytes c.args.rowwise c.args.second c.requires.0 c.ready-live.ensures c.requires.3 c.requires.4 c.args.dst.now c.columns.new.dst c.requires.2 c.columns.ensures
