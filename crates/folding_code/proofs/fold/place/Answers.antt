-- `folding_code::fold::place` meets its contract: no partner, a step that is none, or a partner. Assumes nothing.
use mathlib.Core.Path.{◌≡◌, sym, ◌∙◌}
use mathlib.Core.Bool.{◌&&◌}
use mathlib.Core.List.{List}
use Prim.Native.Nat.{ℕ, suc, ◌<◌}
use native.Mathlib.Omega.{arith}
use borrow.Author.Tests.{not-true, not-false}
use lib.Dec.{eqb}
use Rattle.remain.specs.Remaining.{word, mark_at, entry_at}
use Rattle.remain.specs.Touch.{touches}
use Rattle.remain.proofs.Finds.{last-most}
use Rattle.folding.specs.Owners.{owner, partner}
use Rattle.folding.proofs.Owners.{alone-by, other-by}
use Rattle.folding.proofs.Turns.{stays}
use Rattle.folding_code.proofs.fold.place.Goals as goal

-- what the search found, at the row and the column as they were read
found : (o s : List ℕ) (i : ℕ) {k r c : ℕ} → k ≡ partner (owner o) s r c i → r ≡ word s i 2 → c ≡ word s i 3 → k ≡ partner (owner o) s (word s i 2) (word s i 3) i
found o s i e p q = e ∙ (λ t. partner (owner o) s (p t) (q t) i)

less : (o s : List ℕ) (i h : ℕ) → suc h ≡ partner (owner o) s (word s i 2) (word s i 3) i → h < i
less o s i h e = omega (arith, e, last-most (λ j. eqb (owner o j) j && touches (word s i 2) (word s i 3) (mark_at s j)) i)

pub returns-in_default : goal.returns-in_default
returns-in_default c =
    let a = alone-by (owner c.args.o.now) c.args.s.now c.args.l.now c.args.i (entry_at c.args.s.now c.args.l.now c.args.i) c.args.i (sym (found c.args.o.now c.args.s.now c.args.i c.in_default.ensures c.word.ensures c.word-2.ensures)) in
    stays c.args.s.now c.args.l.now c.args.o.now c.args.i c.requires.0 c.requires.1 c.requires.2 a.0 a.1

pub alike-requires : goal.alike-requires
alike-requires c =
    let e = found c.args.o.now c.args.s.now c.args.i c.in-Some.ensures c.word.ensures c.word-2.ensures in
    (c.requires.0.most, omega (arith, less c.args.o.now c.args.s.now c.args.i c.in-Some.h e, c.requires.0.most), c.requires.0.steps)

pub returns-then-not-alike : goal.returns-then-not-alike
returns-then-not-alike c =
    let e = found c.args.o.now c.args.s.now c.args.i c.in-Some.ensures c.word.ensures c.word-2.ensures in
    let a = other-by (owner c.args.o.now) c.args.s.now c.args.l.now c.args.i (entry_at c.args.s.now c.args.l.now c.args.i) c.in-Some.h c.args.i (sym e) (sym c.alike.ensures ∙ not-true _ c.if-not-alike.true-raw) in
    stays c.args.s.now c.args.l.now c.args.o.now c.args.i c.requires.0 c.requires.1 c.requires.2 a.0 a.1

pub join-requires : goal.join-requires
join-requires c =
    let e = found c.args.o.now c.args.s.now c.args.i c.in-Some.ensures c.word.ensures c.word-2.ensures in
    record {
      listed = (c.requires.0, c.requires.1, c.requires.2);
      h_lt_i = (less c.args.o.now c.args.s.now c.args.i c.in-Some.h e, sym e, sym c.alike.ensures ∙ not-false _ c.if-not-alike.false-raw);
    }
