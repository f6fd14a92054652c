-- `decimal::numbers` meets its contract: a turn passes over a word, and fills a place of the list. Assumes nothing.
use mathlib.Core.Path.{◌≡◌, refl, sym, ap, ◌∙◌}
use Prim.Native.Nat.{ℕ, ◌+◌, ◌-◌, ◌<◌}
use native.Mathlib.Omega.{arith}
use lib.IntN.{ℤ}
use lib.ListN.{length, get_or, drop}
use mathlib.Core.Bool.{false}
use mathlib.Core.List.{List, [], ◌∷◌}
use lib.Seq.{slice}
use Rattle.whole.specs.Search.{seek}
use borrow.Author.Rules.{rules}
use mir.Syntax.{w32}
use mir.Val.{to_z, of_z}
use Rattle.words.specs.Words.{blank, passed_at, words_of, is_number, number_of}
use Rattle.words.proofs.Runs.{part}
use Rattle.words.proofs.Splits.{words-none, passed-blanks, passed-stop, passed-word}
use Rattle.words.proofs.Takes.{Taking, take-start, take_more, take_done, take-full, take-other}
use Rattle.words.proofs.decimal.numbers.Goals as goal

-- the words that are left where a turn starts: the next and those behind it, wherever it ends
left : (line : List ℕ) (from at : ℕ) (old list : List ℤ) (count end : ℕ) → at < length line → (at < length line → blank (get_or line at 0) ≡ false)
    → Taking (words_of [] (drop from line)) old (words_of [] (drop at line)) list count
    → end ≡ seek (passed_at false line) (at + 1) (length line - (at + 1))
    → Taking (words_of [] (drop from line)) old (slice at end line ∷ words_of [] (drop end line)) list count
left line from at old list count end lt word taking e = rw (passed-word line at end lt (word lt) e) at taking

pub loop-at-init : goal.loop-at-init
loop-at-init c =
    let line = c.args.line.now in
    let e = c.pass-at.ensures.value in
    (c.pass-at.ensures.lower_bound.1, passed-stop line _ _ c.requires e, rw (← (passed-blanks line c.args.from c.pass-at.result c.requires e)) (take-start _ _))

pub returns-then-list-count : goal.returns-then-list-count
returns-then-list-count c = let t = left _ _ _ _ _ _ _ c.loop-at-test.true c.loop-at.invariant.1 c.loop-at.invariant.2 refl in record {
  count_in_bounds = t.room;
  taken = take-full _ _ t (omega arith);
}

pub returns-in_default-clause-taken : goal.returns-in_default-clause-taken
returns-in_default-clause-taken c =
    let t = left _ _ _ _ _ _ _ c.loop-at-test.true c.loop-at.invariant.1 c.loop-at.invariant.2 c.pass-end.ensures.value in
    take-other _ _ t (omega arith) (ap is_number (sym (part _ _ c.args.line.now (omega arith))) ∙ c.in_default.ensures)

pub loop-at-preserved : goal.loop-at-preserved
loop-at-preserved c =
    let t = left _ _ _ _ _ _ _ c.loop-at-test.true c.loop-at.invariant.1 c.loop-at.invariant.2 c.pass-end.ensures.value in
    let p = c.pass-at-in-loop-at.ensures in
    let e = part c.loop-at.at c.pass-end.result c.args.line.now (omega arith) in
    let f : to_z w32 (of_z w32 c.in-Some.z) ≡ c.in-Some.z = search rules in
    let z = f ∙ c.in-Some.ensures.1 ∙ ap number_of e in
    (p.lower_bound.1, passed-stop c.args.line.now _ _ c.pass-end.ensures.lower_bound.1 p.value, rw (z, ← (passed-blanks c.args.line.now c.pass-end.result c.pass-at-in-loop-at.result c.pass-end.ensures.lower_bound.1 p.value)) (take_more _ _ t (omega arith) (ap is_number (sym e) ∙ c.in-Some.ensures.0)))

pub returns : goal.returns
returns c =
    let t = rw (words-none c.args.line.now _ c.loop-at-test.false) at c.loop-at.invariant.2 in
    record {
      count_in_bounds = t.room;
      taken = take_done _ _ t;
    }
