-- `quick::filling::run` meets its contract: the rows, then the columns. Assumes nothing.
use mathlib.Core.Path.{◌≡◌, sym, subst}
use mathlib.Core.List.{List}
use Prim.Native.Nat.{ℕ, ◌*◌, ◌≤◌, ◌<◌}
use native.Mathlib.Omega.{arith}
use lib.IntN.{ℤ, pos}
use Rattle.whole.proofs.Cells.{row_in}
use Rattle.tables.specs.Sizes.{cut}
use Rattle.fast.specs.Groups.{Area, cell_of}
use Rattle.fast.proofs.Blocks.{seen-shown, whole-block}
use Rattle.pixels.specs.Pixels.{pixel_f}
use Rattle.quick.proofs.filling.run.Goals as goal
use Rattle.quick.proofs.filling.run.Lts as lts
use Rattle.quick.proofs.filling.run.Reads as reads
use Rattle.quick.proofs.filling.run.Tie as tie

abbrev After-repeats_of-down : Type 0
After-repeats_of-down = lts.After-repeats_of2 tie.the-claims reads.Pre reads.Post tie.handed_clauses

abbrev Start : Type 0
Start = lts.Start tie.the-claims reads.Pre reads.Post tie.handed_clauses

module _ (c : After-repeats_of-down) where
  abbrev s : Start
  s = c.before.before.before.before.before.before.before.before.before.before.before.before

  abbrev sh : ℕ
  sh = c.cut_of-sh.result

  abbrev sw : ℕ
  sw = c.cut_of-sw.result

  wide : sw ≡ cut s.args.w
  wide = c.cut_of-sw.ensures

  high : sh ≡ cut s.args.h
  high = c.cut_of-sh.ensures

  abbrev work : List ℤ
  work = c.ready-live.new.work

  abbrev live : ℕ
  live = c.ready-live.result

  -- what the columns ask of the work area
  Asks : ℕ → ℕ → Type 0
  Asks sw sh = Area sw sh work × ((q l j : ℕ) → l < 16 → 16 * q < sw → live ≤ j → j < sh → cell_of sh work q j l ≡ pos 0)

  asked : Asks sw sh
  unfolding Asks
  asked =
      let m = c.ready-live.ensures in
      subst (λ (n : ℕ). Asks n sh) (sym wide) (subst (λ (n : ℕ). Asks (cut s.args.w) n) (sym high) (m.area, λ q l j a b d e. m.empty q j l a b d e))

pub ready-live-requires : goal.ready-live-requires
ready-live-requires c = (c.requires.0, c.requires.4)

pub fill_columns-requires : goal.fill_columns-requires
unfolding Asks
fill_columns-requires c =
    let m = c.ready-live in record {
      side = (c.requires.0.across, c.requires.0.down, wide c.before.before, high c.before.before, c.repeats_of-across.ensures, c.repeats_of-down.ensures, c.requires.1, seen-shown c.requires.2, λ y l. omega (arith, row_in c.args.w l c.requires.3));
      area = ((asked c.before.before).0, omega (arith, high c.before.before, c.requires.4.others, m.auto.out), (asked c.before.before).1);
    }

pub returns : goal.returns
returns c =
    whole-block (pixel_f (pos 0)) pixel_f c.args.rowwise c.args.second c.requires.0 c.ready-live.ensures c.args.out.now c.fill_columns.new.out c.requires.2 (sh c.before.before.before.before.before.before.before) c.repeats_of-across.result c.repeats_of-down.result (high c.before.before.before.before.before.before.before) c.repeats_of-across.ensures c.repeats_of-down.ensures c.fill_columns.ensures
