-- `fast::columns::strip` meets its contract: the results of a group, and the rows of samples that gain them. Assumes nothing.
use mathlib.Core.Path.{◌≡◌, sym, subst}
use mathlib.Core.List.{List}
use Prim.Native.Nat.{ℕ, ◌+◌, ◌*◌, ◌/◌, ◌^◌, ◌≤◌, ◌<◌, zero-le}
use native.Mathlib.Nat as N
use native.Mathlib.Omega.{arith}
use lib.Dec.{lit≤}
use lib.IntN.{ℤ, pos, nat_abs}
use lib.ListN.{length}
use Rattle.whole.specs.Grid.{cols_by}
use Rattle.wide_rows.specs.Lines.{line}
use Rattle.fast.specs.Groups.{cell_of, dct_of}
use Rattle.fast.proofs.Gained.{strip-once, strip-twice, rounded-small}
use Rattle.fast.proofs.columns.strip.Goals as goal
use Rattle.fast.proofs.columns.strip.Lts as lts
use Rattle.fast.proofs.columns.strip.Reads as reads
use Rattle.fast.proofs.columns.strip.Tie as tie

abbrev After-results : Type 0
After-results = lts.After-results tie.the-claims reads.Pre reads.Post tie.handed_clauses

abbrev Start : Type 0
Start = lts.Start tie.the-claims reads.Pre reads.Post tie.handed_clauses

abbrev Then-across-eq0 : Type 0
Then-across-eq0 = lts.Then1 tie.the-claims reads.Pre reads.Post tie.handed_clauses

abbrev Else-across-eq0 : Type 0
Else-across-eq0 = lts.Else1 tie.the-claims reads.Pre reads.Post tie.handed_clauses

module _ (c : After-results) where
  abbrev start : Start
  start = c.before.before

  abbrev out : List ℤ
  out = c.results.new.out

  long : length out ≡ length start.args.out.now
  long = c.results.auto.out

  row_in : (y : ℕ) → y < start.args.h → (y / 2 ^ start.args.down) * 16 + 16 ≤ length out
  row_in y h = omega (arith, long, start.requires.sized.2, start.requires.shown.5 y h)

once : (c : Then-across-eq0) → c.args.across ≡ 0
once c = omega arith

two : (c : Else-across-eq0) → c.args.across ≡ 1
two c = omega (arith, c.requires.shown.1)

pub gain_rows-requires : goal.gain_rows-requires
gain_rows-requires c =
    record {
      shown = (c.requires.shown.0, zero-le, c.requires.shown.2, c.requires.shown.3, λ x h. subst (λ (a : ℕ). x / 2 ^ a < 16) (once c.before) (c.requires.shown.4 x h));
      by_index = λ y h. (row_in c.before.before.before y h, λ l a. N.le_trans (c.results.ensures.small (y / 2 ^ c.args.down) l (c.requires.shown.5 y h) a) (lit≤ tt));
    }

pub settled-requires : goal.settled-requires
settled-requires c =
    (omega (arith, long c.before.before.before, c.requires.sized.2), c.requires.shown.3, c.results.ensures.small)

pub gain_rows-requires-else-across-eq0 : goal.gain_rows-requires-else-across-eq0
gain_rows-requires-else-across-eq0 c =
    let r = c.settled in record {
      shown = (c.requires.shown.0, lit≤ tt, c.requires.shown.2, zero-le, λ x h. subst (λ (a : ℕ). x / 2 ^ a < 16) (two c.before.before.before.before) (c.requires.shown.4 x h));
      by_index = λ y h. (omega (arith, row_in c.before.before.before.before.before.before y h, r.auto.out), λ l a. subst (λ (z : ℤ). nat_abs z ≤ 2 ^ 30) (sym (r.ensures (y / 2 ^ c.args.down) l (c.requires.shown.5 y h) a)) (rounded-small c.args.shift (line (out c.before.before.before.before.before.before) l (y / 2 ^ c.args.down)) c.requires.shown.3 (c.results.ensures.small (y / 2 ^ c.args.down) l (c.requires.shown.5 y h) a)));
    }

pub returns-then-across-eq0 : goal.returns-then-across-eq0
returns-then-across-eq0 c =
    strip-once (pos 0) (λ z. z) c.args.dst.now c.args.from c.args.stride c.args.w c.args.h c.args.shift c.args.across c.args.down c.args.sh (cols_by (dct_of c.args.sh) c.args.sh (cell_of c.args.sh c.args.work.now c.args.q)) (out c.before.before.before.before.before) c.args.dst.now c.gain_rows.new.dst c.results.ensures c.requires.shown.4 c.requires.shown.5 0 (once c.before.before.before) c.gain_rows.ensures

pub returns-else-across-eq0 : goal.returns-else-across-eq0
returns-else-across-eq0 c =
    let t = c.settled in
    strip-twice (pos 0) (λ z. z) c.args.dst.now c.args.from c.args.stride c.args.w c.args.h c.args.shift c.args.across c.args.down c.args.sh (cols_by (dct_of c.args.sh) c.args.sh (cell_of c.args.sh c.args.work.now c.args.q)) (out c.before.before.before.before.before.before.before.before) c.args.dst.now c.gain_rows-else-across-eq0.new.dst c.results.ensures c.requires.shown.4 c.requires.shown.5 1 (two c.before.before.before.before.before.before) t.new.out t.ensures c.gain_rows-else-across-eq0.ensures
