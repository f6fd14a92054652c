-- The verdicts of undo and withdrawal, by what their judges called. Assumes nothing.
--     kept-err, kept-ok                     5 and 12
--     undo-err, withdraw-first              the same of both calls
--     undo-none, undo-newest                13 where none remains, and what follows
--     withdraw-gone, withdraw-there         13 where the number doesn't remain, and what follows
--     withdraw-err, withdraw-last           8 and 10, then 13 again
use mathlib.Core.Path.{◌≡◌, refl, sym, ap, ◌∙◌}
use Prim.Native.Nat.{ℕ, suc, ◌-◌, ◌<◌}
use native.Mathlib.Omega.{arith}
use borrow.Author.Tests.{le-ltb, lt-ltb}
use lib.Dec.{ltb}
use lib.ListN.{length}
use Rattle.answers.specs.declared.Answer.{Answer}
use Rattle.answers.specs.declared.Reason.{Reason}
use Rattle.answers.specs.Answers.{done, refused, unless}
use Rattle.answers.specs.Reasons.{answer_of}
use Rattle.answers.proofs.Verdicts.{opens, stops, refuses}
use Rattle.remain.specs.Remaining.{count, found, entry_at}
use Rattle.remain.specs.Touch.{free}
use Rattle.keeping.specs.Range.{Area, kept}
use Rattle.history.specs.Calls.{Lent, and_then, undoing, undo_verdict, withdraw_verdict, spot_of}
use Rattle.history.proofs.Parts.{then-stops, then-opens, judged-stops, judged-opens}

module _ (a : Area) (m : Lent) where
  abbrev pub Kept : Answer → Answer
  Kept rest = kept a m.steps m.levels (length m.index) rest

  abbrev pub undo-at : ℕ → Answer
  undo-at i = undoing a.stride m.plane (entry_at m.steps m.levels i)

  pub kept-err : (r : Reason) (rest : Answer) → answer_of r ≡ Kept done → answer_of r ≡ Kept rest
  kept-err r rest e = judged-stops a m.steps m.levels (length m.index) e (refuses r) rest

  pub kept-ok : (rest : Answer) → done ≡ Kept done → Kept rest ≡ rest
  kept-ok rest e = judged-opens a m.steps m.levels (length m.index) e refl rest

  abbrev newest : Answer
  newest = unless (ltb 0 (count m.steps)) (refused 13 0 0) (undo-at (count m.steps - 1))

  pub undo-err : (r : Reason) → answer_of r ≡ Kept done → answer_of r ≡ undo_verdict a m
  undo-err r e = kept-err r newest e

  pub undo-none : done ≡ Kept done → count m.steps ≡ 0 → refused 13 0 0 ≡ undo_verdict a m
  undo-none e z = sym (kept-ok newest e ∙ stops (refused 13 0 0) (undo-at (count m.steps - 1)) (le-ltb 0 (count m.steps) (omega arith)))

  pub undo-newest : done ≡ Kept done → 0 < count m.steps → undo_verdict a m ≡ undo-at (count m.steps - 1)
  undo-newest e h = kept-ok newest e ∙ opens (refused 13 0 0) (undo-at (count m.steps - 1)) (lt-ltb 0 (count m.steps) h)

  module _ (q : ℕ) where
    abbrev last : ℕ → Answer
    last i = unless (free m.steps i) (refused 13 0 q) done

    abbrev rest : ℕ → Answer
    rest i = and_then (undo-at i) (last i)

    abbrev there : Answer
    there = unless (ltb 0 (found m.steps q (count m.steps))) (refused 13 0 q) (rest (spot_of m.steps q))

    pub withdraw-first : (r : Reason) → answer_of r ≡ Kept done → answer_of r ≡ withdraw_verdict a q m
    withdraw-first r e = kept-err r there e

    pub withdraw-gone : done ≡ Kept done → found m.steps q (count m.steps) ≡ 0 → refused 13 0 q ≡ withdraw_verdict a q m
    withdraw-gone e z = sym (kept-ok there e ∙ stops (refused 13 0 q) (rest (spot_of m.steps q)) (le-ltb 0 (found m.steps q (count m.steps)) (omega arith)))

    module _ (e : done ≡ Kept done) (i : ℕ) (f : suc i ≡ found m.steps q (count m.steps)) where
      pub spot-is : i ≡ spot_of m.steps q
      spot-is = omega arith

      withdraw-there : withdraw_verdict a q m ≡ rest i
      withdraw-there =
          kept-ok there e ∙ opens (refused 13 0 q) (rest (spot_of m.steps q)) (lt-ltb 0 (found m.steps q (count m.steps)) (omega arith)) ∙ ap rest (sym spot-is)

      pub withdraw-err : (r : Reason) → answer_of r ≡ undo-at i → answer_of r ≡ withdraw_verdict a q m
      withdraw-err r u = u ∙ sym (withdraw-there ∙ then-stops (undo-at i) (last i) (λ z. refuses r (ap (λ (x : Answer). x.number) u ∙ z)))

      pub withdraw-last : done ≡ undo-at i → withdraw_verdict a q m ≡ unless (free m.steps i) (refused 13 0 q) done
      withdraw-last u = withdraw-there ∙ then-opens (undo-at i) (last i) (ap (λ (x : Answer). x.number) (sym u))
