-- The calls on a history that calls have led to. Assumes nothing.
--     sound-make, kept-make     the tests of 5 and 12 pass for a history in range
--     holds-empty               the empty history
--     holds-stepped             a step that is taken: the list with it, taken from the beginning, leaves the plane that it left
--     withdraw-accepts, withdraw-only      a withdrawal is accepted exactly if its step remains and no later one shares a sample with it
--     undo-accepts, holds-undone           the undo of the newest is never refused, and leaves what the list without it leaves
--     holds-withdrawn           and then the list without it leaves the plane that it left
use mathlib.Core.Path.{◌≡◌, sym, ap, ◌∙◌, subst}
use mathlib.Core.Bool.{true, false}
use mathlib.Core.List.{List}
use Prim.Native.Nat.{ℕ, ◌+◌, ◌*◌, ◌-◌, ◌<◌}
use native.Mathlib.Nat as N
use native.Mathlib.Omega.{arith}
use borrow.Author.Tests.{eq-eqb, le-leb, lt-ltb, ltb-true}
use lib.Dec.{ltb, eqb}
use lib.IntN.{ℤ}
use lib.ListN.{length}
use Rattle.whole.specs.Sums.{item}
use Rattle.answers.specs.declared.Answer.{Answer}
use Rattle.answers.specs.Answers.{done, refused, unless, ends}
use Rattle.answers.proofs.Verdicts.{opens, passed}
use Rattle.whole.specs.Search.{seek}
use Rattle.whole.proofs.Search.{seek-all}
use Rattle.whole.proofs.Tests.{both, and-true}
use Rattle.wht.specs.Wht.{iwht}
use Rattle.lossless.specs.Gains.{gained, samples}
use Rattle.lossless.specs.Step.{attempt, sample, front, step_of, undo_of}
use Rattle.lossless.proofs.Arguments.{Fine, front-done}
use Rattle.lossless.proofs.Blocks as B
use Rattle.lossless.proofs.Calls.{taking}
use Rattle.remain.specs.Remaining.{Entry, count, number_at, word, levels_at, entry_at, entries, number_before, found, put_on}
use Rattle.remain.specs.Touch.{across, free}
use Rattle.remain.specs.Without.{steps_without, levels_without}
use Rattle.remain.proofs.Finds.{last-most}
use Rattle.history.specs.Calls as C
use Rattle.keeping.specs.Range.{Area, sound, kept, front_of, entry_ok}
use Rattle.history.specs.Calls.{Lent, and_then, undoing, spots, losses, room, step_samples, stepped, taken_out, spot_of, withdraw_of}
use Rattle.remain.specs.Remaining.{added_to}
use Rattle.keeping.specs.Bounds.{Keeping}
use Rattle.keeping.specs.Steps.{steps_in}
use Rattle.lossless.specs.Replay.{Replay, start, more}
use Rattle.keeping.proofs.Facts.{Shape, shape_is, Fronted, front-is, entered}
use Rattle.history.proofs.Kept.{count-stepped, count-taken-out}
use Rattle.history.proofs.Parts.{then-opens, then-passed, done-samples}
use Rattle.reached.specs.Holds.{Holds}
use Rattle.reached.proofs.Entries.{entries-added}
use Rattle.reached.proofs.Withdrawn.{shared, free-is, free-make, undo-is, free-undone, free-answer}

module _ {a : Area} {s : List ℕ} {l : List ℤ} {k : ℕ} (q : Keeping a s l k) where
  pub sound-make : sound a s l k ≡ true
  unfolding sound
  sound-make =
      and-true (eq-eqb (length s) 16385 q.steps)
      (and-true (eq-eqb (length l) 65536 q.levels)
      (and-true (eq-eqb k (across a.rows * across a.width) q.cells)
      (and-true (le-leb (count s) 4096 q.most)
      (le-leb (count s) (seek (entry_ok a s l) 0 (count s)) (omega (arith, seek-all (entry_ok a s l) 0 (count s) (λ i h. q.each i (omega arith))))))))

  pub kept-make : (rest : Answer) → kept a s l k rest ≡ rest
  kept-make rest = opens (refused 5 0 0) (unless (sound a s l k) (refused 12 0 0) rest) q.shape ∙ opens (refused 12 0 0) rest sound-make

-- the empty history
pub holds-empty : (a : Area) (m : Lent) → count m.steps ≡ 0 → Holds a m.plane m
holds-empty a m e = subst (λ (n : ℕ). Replay step_of m.plane (steps_in a (entries m.steps m.levels n)) m.plane) (sym e) start

module _ (a : Area) (base : List ℤ) (m : Lent) (size : a.size ≡ length m.plane) (holds : Holds a base m) where
  -- ---- a step
  module _ (d r c : ℕ) (v : List ℤ) (e : (C.step_of a d r c v m).0.number ≡ 0) where
    pub parts : ((front_of a d r c v m.steps m.levels (length m.index)).number ≡ 0) × ((step_samples a d r c v m).number ≡ 0)
    unfolding C.step_of
    parts = then-passed (front_of a d r c v m.steps m.levels (length m.index)) (step_samples a d r c v m) e

    pub args : Fronted a d r c v m.steps m.levels (length m.index)
    args = front-is a d r c v m.steps m.levels (length m.index) parts.0

    ends-parts : ((samples (sample d) (spots a.stride r c) m.plane (item (iwht v))).number ≡ 0) × ((unless (room m.steps) (refused 14 0 0) done).number ≡ 0)
    ends-parts = then-passed (samples (sample d) (spots a.stride r c) m.plane (item (iwht v))) (unless (room m.steps) (refused 14 0 0) done) parts.1

    shape : Shape a
    shape = shape_is a args.keeping.shape

    in-range : Fine (length m.plane) (attempt d a.stride a.width r c v)
    in-range =
        record {
          depths = and-true (le-leb 8 d args.deep.0) (le-leb d 12 args.deep.1);
          wide = and-true (le-leb 4 a.stride shape.stride4) (le-leb a.stride 65536 shape.stride_most);
          visible = and-true (le-leb 4 a.width shape.width4) (le-leb a.width a.stride shape.width_most);
          fit =
              and-true (le-leb r 65535 (omega (arith, args.stand.low, shape.rows_most)))
              (and-true (le-leb (c + 4) a.width args.stand.right)
              (le-leb ((r + 3) * a.stride + c + 4) (length m.plane) (omega (arith, args.stand.reach, size, N.add-mul r 3 a.stride))));
          levels = args.sixteen;
        }

    -- it is the step of the lossless crate
    pub step_is : step_of m.plane (attempt d a.stride a.width r c v) ≡ (done, gained (spots a.stride r c) (item (iwht v)) m.plane)
    step_is =
        taking (front (length m.plane) (attempt d a.stride a.width r c v)) (sample d) (spots a.stride r c) m.plane (item (iwht v))
        (ap (λ (x : Answer). x.number) (front-done (length m.plane) (attempt d a.stride a.width r c v) in-range))
        (B.passes (sample d) (spots a.stride r c) m.plane (item (iwht v)) ends-parts.0)

    pub less : count m.steps < 4096
    less = ltb-true (count m.steps) 4096 (both (ltb (count m.steps) 4096) (ltb (number_before m.steps (count m.steps)) 4294967295) (passed (room m.steps) 13 0 0 done ends-parts.1).0).0

    pub holds-stepped : Holds a base (stepped a d r c v m)
    holds-stepped =
        let k = args.keeping in
        let s = m.steps in
        subst (λ (n : ℕ). Replay step_of base (steps_in a (entries (added_to d r c s) (put_on (16 * count s) v 16 m.levels) n)) (stepped a d r c v m).plane)
        (sym (count-stepped d r c s (omega (arith, k.steps))))
        (subst (λ (t : List Entry). Replay step_of base (steps_in a t) (stepped a d r c v m).plane)
        (sym (entries-added d r c s m.levels v (omega (arith, k.steps, less)) args.sixteen.count (omega (arith, k.levels, less))))
        (more holds step_is))

  -- ---- a free step taken out
  module _ (keeping : Keeping a m.steps m.levels (length m.index)) (i : ℕ) (below : i < count m.steps) (is_free : free m.steps i ≡ true) where
    answer : (undoing a.stride m.plane (entry_at m.steps m.levels i)).number ≡ 0
    answer = free-answer a base m.steps m.levels (length m.index) i m.plane size keeping below holds is_free

    pub holds-taken-out : Holds a base (taken_out a i m)
    holds-taken-out =
        let s = m.steps in
        let l = m.levels in
        let w = free-undone a base s l (length m.index) i m.plane size keeping below holds is_free in
        let g = gained (spots a.stride (word s i 2) (word s i 3)) (item (losses (levels_at l i))) m.plane in
        let e : w.0 ≡ g =
        ap (λ (x : Answer × List ℤ). x.1)
        (sym w.1 ∙ undo-is a s l i m.plane size (shape_is a keeping.shape) (entered keeping i below)
        ∙ ap (λ v. ends v m.plane g) (done-samples a.stride m.plane (entry_at s l i) answer)) in
        subst (λ (n : ℕ). Replay step_of base (steps_in a (entries (steps_without i s) (levels_without i (count s) l) n)) g)
        (sym (count-taken-out i s (omega (arith, keeping.steps))))
        (subst (Replay step_of base (steps_in a (entries (steps_without i s) (levels_without i (count s) l) (count s - 1)))) e w.2)

  -- ---- a withdrawal
  module _ (keeping : Keeping a m.steps m.levels (length m.index)) (q : ℕ) where
    abbrev i : ℕ
    i = spot_of m.steps q

    abbrev rest : Answer
    rest = and_then (undoing a.stride m.plane (entry_at m.steps m.levels i)) (unless (free m.steps i) (refused 13 0 q) done)

    abbrev all : Answer
    all = unless (ltb 0 (found m.steps q (count m.steps))) (refused 13 0 q) rest

    pub withdraw-only : (withdraw_of a q m).0.number ≡ 0
        → (0 < found m.steps q (count m.steps)) × ((j : ℕ) → i < j → j < count m.steps → shared m.steps i j ≡ false)
    unfolding withdraw_of
    withdraw-only e =
        let t = passed (ltb 0 (found m.steps q (count m.steps))) 12 0 q rest (ap (λ (x : Answer). x.number) (sym (kept-make keeping all)) ∙ e) in
        let u = then-passed (undoing a.stride m.plane (entry_at m.steps m.levels i)) (unless (free m.steps i) (refused 13 0 q) done) t.1 in
        (ltb-true 0 (found m.steps q (count m.steps)) t.0, free-is m.steps i (passed (free m.steps i) 12 0 q done u.1).0)

    module _ (remains : 0 < found m.steps q (count m.steps)) (unshared : (j : ℕ) → i < j → j < count m.steps → shared m.steps i j ≡ false) where
      below : i < count m.steps
      below = omega (arith, last-most (λ k. eqb (number_at m.steps k) q) (count m.steps))

      is_free : free m.steps i ≡ true
      is_free = free-make m.steps i below unshared

      pub withdraw-accepts : withdraw_of a q m ≡ (done, taken_out a i m)
      unfolding withdraw_of
      withdraw-accepts =
          ap (λ v. ends v m (taken_out a i m))
          (kept-make keeping all ∙ opens (refused 13 0 q) rest (lt-ltb 0 (found m.steps q (count m.steps)) remains)
          ∙ then-opens (undoing a.stride m.plane (entry_at m.steps m.levels i)) (unless (free m.steps i) (refused 13 0 q) done) (answer keeping i below is_free)
          ∙ opens (refused 13 0 q) done is_free)

      pub holds-withdrawn : Holds a base (taken_out a i m)
      holds-withdrawn = holds-taken-out keeping i below is_free

  -- ---- the undo of the newest
  module _ (keeping : Keeping a m.steps m.levels (length m.index)) (some : 0 < count m.steps) where
    abbrev newest : ℕ
    newest = count m.steps - 1

    newest-below : newest < count m.steps
    newest-below = omega arith

    pub newest-free : free m.steps newest ≡ true
    newest-free = free-make m.steps newest newest-below (λ j h l. absurd (omega arith))

    -- it is never refused
    pub undo-accepts : C.undo_of a m ≡ (done, taken_out a newest m)
    unfolding C.undo_of
    undo-accepts =
        let e = entry_at m.steps m.levels newest in
        ap (λ v. ends v m (taken_out a newest m))
        (kept-make keeping (unless (ltb 0 (count m.steps)) (refused 13 0 0) (undoing a.stride m.plane e))
        ∙ opens (refused 13 0 0) (undoing a.stride m.plane e) (lt-ltb 0 (count m.steps) some)
        ∙ done-samples a.stride m.plane e (answer keeping newest newest-below newest-free))

    pub holds-undone : Holds a base (taken_out a newest m)
    holds-undone = holds-taken-out keeping newest newest-below newest-free
