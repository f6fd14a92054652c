-- `passes::block::block` meets its contract: the live part is found and loaded; rows, the step between, columns. Assumes nothing.
use mathlib.Core.Path.{◌≡◌, sym, ap, ◌∙◌, subst}
use mathlib.Core.Bool.{Bool}
use mathlib.Core.List.{List}
use Prim.Native.Nat.{ℕ, ◌+◌, ◌*◌, ◌%◌, ◌^◌, ◌≤◌, ◌<◌}
use native.Mathlib.Nat as N
use native.Mathlib.Omega.{arith}
use lib.IntN.{ℤ, pos}
use lib.ListN.{length, get_or}
use Rattle.whole.specs.Grid.{grid_of, Bounded}
use Rattle.tables.proofs.Kernels.{cut_most}
use Rattle.passes.specs.Passes.{scaling, number_at, loaded, settled_to, Scalable}
use Rattle.passes.proofs.Steps.{clamped-bounded, area}
use Rattle.passes.proofs.Places.{fours}
use Rattle.passes.proofs.Living.{entry_zero, settled-zero, zero-loaded, live-bounded, side-least, live-block}
use Rattle.passes.proofs.block.block.Goals as goal
use Rattle.passes.proofs.block.block.Lts as lts
use Rattle.passes.proofs.block.block.Reads as reads
use Rattle.passes.proofs.block.block.Tie as tie

abbrev Start : Type 0
Start = lts.Start tie.the-claims reads.Pre reads.Post

abbrev After-live_part-live : Type 0
After-live_part-live = lts.After-live_part tie.the-claims reads.Pre reads.Post

abbrev After-load : Type 0
After-load = lts.After-load tie.the-claims reads.Pre reads.Post

abbrev After-rows : Type 0
After-rows = lts.After-rows tie.the-claims reads.Pre reads.Post

sides : {a b p q n : ℕ} → a ≡ p → b ≡ q → p * q ≤ n → a * b ≤ n
sides {a} {b} {p} {q} {n} e f h = subst (λ (m : ℕ). m ≤ n) (sym (ap (λ z. z * b) e ∙ ap (λ z. p * z) f)) h

ranged : {a b p q : ℕ} {f g : Bool} (cs : List ℤ) → a ≡ p → b ≡ q → f ≡ g → Scalable g (p * q) cs → Scalable f (a * b) cs
ranged {a} {b} {p} {q} cs e f t h k l u = h k (subst (λ (m : ℕ). k < m) (ap (λ z. z * b) e ∙ ap (λ z. p * z) f) l) (sym t ∙ u)

-- the sides, and that the work area holds sh rows of sw
module _ (i : goal.After-is_scaled-scale) where
  abbrev s : Start
  s = i.before.before.before

  abbrev sw : ℕ
  sw = i.cut_of-sw.result

  abbrev sh : ℕ
  sh = i.cut_of-sh.result

  fits : sh * sw ≤ length s.args.work.now
  fits = N.le_trans (area s.args.h s.args.w i.cut_of-sh.ensures i.cut_of-sw.ensures) s.requires.1

  long : sw * sh ≤ length s.args.coeff.now
  long = sides i.cut_of-sw.ensures i.cut_of-sh.ensures s.requires.0.long

  sw-least : 4 ≤ sw
  sw-least = subst (λ (n : ℕ). 4 ≤ n) (sym i.cut_of-sw.ensures) (side-least s.args.w s.args.hor s.requires.0.across)

  sh-least : 4 ≤ sh
  sh-least = subst (λ (n : ℕ). 4 ≤ n) (sym i.cut_of-sh.ensures) (side-least s.args.h s.args.ver s.requires.0.down)

  sw-most : sw ≤ 32
  sw-most = subst (λ (n : ℕ). n ≤ 32) (sym i.cut_of-sw.ensures) (cut_most s.args.w)

  sh-most : sh ≤ 32
  sh-most = subst (λ (n : ℕ). n ≤ 32) (sym i.cut_of-sh.ensures) (cut_most s.args.h)

  sw-fours : sw % 4 ≡ 0
  sw-fours = subst (λ (n : ℕ). n % 4 ≡ 0) (sym i.cut_of-sw.ensures) (fours s.args.w s.args.hor s.requires.0.across)

  sh-fours : sh % 4 ≡ 0
  sh-fours = subst (λ (n : ℕ). n % 4 ≡ 0) (sym i.cut_of-sh.ensures) (fours s.args.h s.args.ver s.requires.0.down)

-- the live part
module _ (q : After-live_part-live) where
  abbrev entered : goal.After-is_scaled-scale
  entered = q.before

  abbrev across : ℕ
  across = q.live_part-live.result.across

  abbrev down : ℕ
  down = q.live_part-live.result.down

  across-most : across ≤ sw entered
  across-most = q.live_part-live.ensures.0

  down-most : down ≤ sh entered
  down-most = q.live_part-live.ensures.1

  -- its rows lie in the area
  live-fits : down * sw entered ≤ length (s entered).args.work.now
  live-fits = N.le_trans (N.mul-le-mul_right (sw entered) down-most) (fits entered)

-- what the rows and the columns are given
module _ (l : After-load) where
  abbrev found : After-live_part-live
  found = l.before.before

  abbrev here : goal.After-is_scaled-scale
  here = l.before.before.before

  given : Bounded (2 ^ 19) (across found) (down found) (grid_of (sw here) l.load.new.work)
  given =
      clamped-bounded (s here).args.bd (across found) (down found) (grid_of (sw here) l.load.new.work) (λ r x. scaling here.is_scaled-scale.result (get_or (s here).args.coeff.now (number_at (s here).args.rowwise (sw here) (sh here) r x) (pos 0))) (s here).requires.0.deep l.load.ensures

turned : (r : After-rows) → Bounded (2 ^ 30) (sw (here r.before.before.before)) (down (found r.before.before.before)) (grid_of (sw (here r.before.before.before)) r.rows.new.work)
turned r =
    let z = s (here r.before.before.before) in
    live-bounded z.args.w z.args.hor (sw (here r.before.before.before)) (down (found r.before.before.before)) (across (found r.before.before.before)) (grid_of (sw (here r.before.before.before)) r.rows.new.work) (grid_of (sw (here r.before.before.before)) r.load.new.work) z.requires.0.across (across-most (found r.before.before.before)) (given r.before.before.before) r.rows.ensures

pub live_part-live-requires : goal.live_part-live-requires
live_part-live-requires c = (sw-least c, sw-most c, sw-fours c, sh-least c, sh-most c, sh-fours c, long c)

pub load-requires : goal.load-requires
load-requires c =
    let i = entered c.before in
    (across-most c.before, down-most c.before, fits i, long i, (s i).requires.0.deep, ranged (s i).args.coeff.now i.cut_of-sw.ensures i.cut_of-sh.ensures i.is_scaled-scale.ensures (s i).requires.0.range)

pub rows-requires : goal.rows-requires
rows-requires c =
    let q = found c.before.before in
    let i = here c.before.before in (
      (s i).requires.0.across,
      sym i.cut_of-sw.ensures,
      q.live_part-live.ensures.2,
      N.le_trans (down-most q) (sh-most i),
      omega (arith, live-fits q, c.load.auto.work),
      across-most q,
      given c.before.before,
    )

pub step-requires : goal.step-requires
step-requires c =
    let i = here c.before.before.before.before.before in
    (omega (arith, live-fits (found c.before.before.before.before.before), c.load.auto.work, c.rows.auto.work), (s i).requires.0.shift, omega (arith, (s i).requires.0.deep), turned c.before.before)

pub columns-requires : goal.columns-requires
columns-requires c =
    let i = here c.before.before.before.before.before.before.before.before in (
      (s i).requires.0.down,
      sym i.cut_of-sh.ensures,
      sw-fours i,
      sw-most i,
      omega (arith, fits i, c.load.auto.work, c.rows.auto.work, c.step.auto.work),
      down-most (found c.before.before.before.before.before.before.before.before),
      clamped-bounded (s i).args.bd (sw i) (down (found c.before.before.before.before.before.before.before.before)) (grid_of (sw i) c.step.new.work) _ (s i).requires.0.deep c.step.ensures,
    )

pub returns : goal.returns
returns c =
    let q = found c.before.before.before.before.before.before.before.before.before.before in
    let i = here c.before.before.before.before.before.before.before.before.before.before in
    let z = s i in
    rw (← i.cut_of-sw.ensures, ← i.cut_of-sh.ensures, ← i.is_scaled-scale.ensures)
    (live-block (sw i) (sh i) (across q) (down q) z.args.w z.args.h z.args.hor z.args.ver (settled_to (z.args.bd + 7) z.args.first) (settled-zero z.args.bd z.args.first z.requires.0.deep z.requires.0.shift)
    (loaded z.args.rowwise i.is_scaled-scale.result z.args.bd (sw i) (sh i) z.args.coeff.now) (grid_of (sw i) c.load.new.work) (grid_of (sw i) c.rows.new.work) (grid_of (sw i) c.step.new.work) (grid_of (sw i) c.columns.new.work)
    (zero-loaded z.args.rowwise i.is_scaled-scale.result z.args.bd (sw i) (sh i) (across q) (down q) z.args.coeff.now q.live_part-live.ensures.3 (entry_zero i.is_scaled-scale.result z.args.bd z.requires.0.deep))
    (across-most q) (down-most q) c.load.ensures c.rows.ensures c.step.ensures c.columns.ensures)
