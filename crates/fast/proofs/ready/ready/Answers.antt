-- `fast::ready::ready` meets its contract: the live part, and its rows. Assumes nothing.
use mathlib.Core.Path.{◌≡◌, sym, ap, ◌∙◌, subst}
use mathlib.Core.Logic.{inr}
use mathlib.Core.Bool.{Bool}
use Prim.Native.Nat.{ℕ, ◌+◌, ◌*◌, ◌%◌, ◌≤◌, ◌<◌}
use native.Mathlib.Omega.{arith}
use lib.Dec.{lit≤}
use lib.ListN.{length}
use Rattle.tables.specs.Sizes.{cut, scaled}
use Rattle.passes.specs.Passes.{Scalable}
use Rattle.passes.proofs.Living.{entry_zero, zero-loaded}
use Rattle.wide_rows.specs.Lines.{Sized}
use Rattle.fast.specs.Groups.{Area}
use Rattle.fast.proofs.Gained.{side-sized}
use Rattle.fast.proofs.Blocks.{side-fours, ready-run}
use Rattle.fast.proofs.ready.ready.Goals as goal
use Rattle.fast.proofs.ready.ready.Lts as lts
use Rattle.fast.proofs.ready.ready.Reads as reads
use Rattle.fast.proofs.ready.ready.Tie as tie

abbrev After-is_scaled-scale : Type 0
After-is_scaled-scale = lts.After-is_scaled tie.the-claims reads.Pre reads.Post tie.handed_clauses

abbrev Start : Type 0
Start = lts.Start tie.the-claims reads.Pre reads.Post tie.handed_clauses

module _ (c : After-is_scaled-scale) where
  abbrev s : Start
  s = c.before.before.before

  abbrev sw : ℕ
  sw = c.cut_of-sw.result

  abbrev sh : ℕ
  sh = c.cut_of-sh.result

  abbrev scale : Bool
  scale = c.is_scaled-scale.result

  wide : sw ≡ cut s.args.w
  wide = c.cut_of-sw.ensures

  high : sh ≡ cut s.args.h
  high = c.cut_of-sh.ensures

  scales : scale ≡ scaled s.args.w s.args.h
  scales = c.is_scaled-scale.ensures

  product : cut s.args.w * cut s.args.h ≡ sw * sh
  product = ap (λ z. z * cut s.args.h) (sym wide) ∙ ap (λ z. sw * z) (sym high)

  long : sw * sh ≤ length s.args.coeff.now
  long = subst (λ (n : ℕ). n ≤ length s.args.coeff.now) product s.requires.0.long

  range : Scalable scale (sw * sh) s.args.coeff.now
  range k l e = s.requires.0.range k (subst (λ (n : ℕ). k < n) (sym product) l) (sym scales ∙ e)

  room : Area sw sh s.args.work.now
  room = subst (λ (n : ℕ). Area n sh s.args.work.now) (sym wide) (subst (λ (n : ℕ). Area (cut s.args.w) n s.args.work.now) (sym high) s.requires.1.area)

pub live_part-live-requires : goal.live_part-live-requires
live_part-live-requires c =
    let a = side-fours c.requires.0.across in
    let b = side-fours c.requires.0.down in
    let f = subst (λ (n : ℕ). (4 ≤ n) × (n ≤ 32) × (n % 4 ≡ 0)) (sym (wide c)) a in
    let g = subst (λ (n : ℕ). (4 ≤ n) × (n ≤ 32) × (n % 4 ≡ 0)) (sym (high c)) b in
    (f.0, f.1, f.2, g.0, g.1, g.2, long c)

pub rows-requires : goal.rows-requires
rows-requires c =
    let v = c.live_part-live in record {
      sized = (subst Sized (sym (wide c.before.before.before.before)) (side-sized c.requires.0.across), v.ensures.0, v.ensures.1, omega (arith, wide c.before.before.before.before, c.requires.1.lines), omega (arith, wide c.before.before.before.before, c.requires.1.results), room c.before.before.before.before, c.requires.0.before);
      sh_in_bounds = (long c.before.before.before.before, range c.before.before.before.before, (λ l j a b d. c.requires.1.silent (j * 16 + l)), λ r x a b d. zero-loaded c.args.rowwise (scale c.before.before.before.before) 8 (sw c.before.before.before.before) (sh c.before.before.before.before) v.result.across v.result.down c.args.coeff.now v.ensures.3 (entry_zero (scale c.before.before.before.before) 8 (lit≤ tt)) r x a d (inr b));
    }

pub returns : goal.returns
returns c =
    let v = c.live_part-live in
    let f = c.rows in
    ready-run c.args.rowwise c.requires.0 v.result.across v.result.down c.args.work.now f.new.work c.requires.1.clear c.requires.1.area (sw c.before.before.before.before.before.before.before.before) (sh c.before.before.before.before.before.before.before.before) (scale c.before.before.before.before.before.before.before.before) (wide c.before.before.before.before.before.before.before.before) (high c.before.before.before.before.before.before.before.before) (scales c.before.before.before.before.before.before.before.before) (v.ensures.1, v.ensures.3, f.ensures)
