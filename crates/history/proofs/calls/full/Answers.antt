-- `history::calls::full` meets its contract: the two tests of 14. Assumes nothing.
use mathlib.Core.Path.{◌≡◌, refl, sym, ap}
use Prim.Native.Nat.{ℕ, ◌≤◌, ◌<◌}
use native.Mathlib.Omega.{arith}
use mathlib.Core.Bool.{Bool, true, false, ◌&&◌}
use mathlib.Core.List.{List}
use borrow.Author.Tests.{le-ltb, lt-ltb}
use lib.Dec.{ltb}
use Rattle.answers.specs.Answers.{done, refused}
use Rattle.answers.proofs.Verdicts.{opens, stops}
use Rattle.remain.specs.Remaining.{count, number_before}
use Rattle.history.specs.Calls.{room}
use Rattle.history.proofs.calls.full.Goals as goal

many : (s : List ℕ) → 4096 ≤ count s → room s ≡ false
many s h = rw (le-ltb (count s) 4096 h)

high : (s : List ℕ) → 4294967295 ≤ number_before s (count s) → room s ≡ false
high s h = rw (le-ltb (number_before s (count s)) 4294967295 h) (no-right (ltb (count s) 4096))
  where
    no-right : (b : Bool) → (b && false) ≡ false
    no-right true = refl
    no-right false = refl

fits_in : (s : List ℕ) → count s < 4096 → number_before s (count s) < 4294967295 → room s ≡ true
fits_in s h k = rw (lt-ltb (count s) 4096 h, lt-ltb (number_before s (count s)) 4294967295 k)

pub returns-then-n-ge4096 : goal.returns-then-n-ge4096
returns-then-n-ge4096 c = sym (stops (refused 14 0 0) done (many c.args.s.now (omega (arith, c.word-n.ensures, c.if-n-ge4096.true))))

pub returns-then-number_before-ge4294967295 : goal.returns-then-number_before-ge4294967295
returns-then-number_before-ge4294967295 c = sym (stops (refused 14 0 0) done (high c.args.s.now (omega (arith, ap (number_before c.args.s.now) c.word-n.ensures, c.number_before.ensures, c.if-number_before-ge4294967295.true))))

pub returns : goal.returns
returns c = sym (opens (refused 14 0 0) done (fits_in c.args.s.now (omega (arith, c.word-n.ensures, c.if-n-ge4096.false)) (omega (arith, ap (number_before c.args.s.now) c.word-n.ensures, c.number_before.ensures, c.if-number_before-ge4294967295.false))))
