-- What the verdicts of undo and withdrawal tell where they are Done, and what the work then asks for. Assumes nothing.
--     undo-passed, withdraw-passed      every test passed
--     undoable-is, writable-is          an entry of a history in range can be undone, its cells written
use mathlib.Core.Path.{◌≡◌, sym, ◌∙◌, subst}
use mathlib.Core.Bool.{true}
use mathlib.Core.List.{List}
use Prim.Native.Nat.{ℕ, ◌+◌, ◌*◌, ◌-◌, ◌≤◌, ◌<◌}
use native.Mathlib.Nat.{le_trans}
use native.Mathlib.Omega.{arith}
use borrow.Author.Tests.{ltb-true}
use lib.Dec.{ltb}
use lib.IntN.{ℤ}
use lib.ListN.{length}
use Rattle.answers.specs.declared.Answer.{Answer}
use Rattle.answers.specs.Answers.{done, refused, unless}
use Rattle.answers.proofs.Verdicts.{passed}
use Rattle.remain.specs.Remaining.{count, word, entry_at, found}
use Rattle.remain.specs.Touch.{free}
use Rattle.keeping.specs.Range.{Area, shaped, sound, kept}
use Rattle.keeping.specs.Bounds.{Keeping}
use Rattle.keeping.proofs.Facts.{shape_is, sound-is, start_small, entered}
use Rattle.history.specs.Calls.{Lent, and_then, undoing, undo_verdict, spot_of, withdraw_verdict}
use Rattle.history.specs.Bounds.{Writable, Undoable}
use Rattle.history.proofs.Parts.{then-passed}

module _ (a : Area) (s : List ℕ) (l : List ℤ) (k : ℕ) where
  kept-passed : (rest : Answer) → (kept a s l k rest).number ≡ 0 → Keeping a s l k × (rest.number ≡ 0)
  kept-passed rest e =
      let t = passed (shaped a) 4 0 0 (unless (sound a s l k) (refused 12 0 0) rest) e in
      let u = passed (sound a s l k) 11 0 0 rest t.1 in
      (sound-is a s l k t.0 u.0, u.1)

module _ (a : Area) (m : Lent) where
  abbrev n : ℕ
  n = count m.steps

  abbrev undo-at : ℕ → Answer
  undo-at i = undoing a.stride m.plane (entry_at m.steps m.levels i)

  pub undo-passed : (undo_verdict a m).number ≡ 0 → Keeping a m.steps m.levels (length m.index) × (0 < n) × ((undo-at (n - 1)).number ≡ 0)
  undo-passed e =
      let t = kept-passed a m.steps m.levels (length m.index) (unless (ltb 0 n) (refused 13 0 0) (undo-at (n - 1))) e in
      let u = passed (ltb 0 n) 12 0 0 (undo-at (n - 1)) t.1 in
      (t.0, ltb-true 0 n u.0, u.1)

  module _ (q : ℕ) where
    abbrev f : ℕ
    f = found m.steps q n

    abbrev last : Answer
    last = unless (free m.steps (spot_of m.steps q)) (refused 13 0 q) done

    pub withdraw-passed : (withdraw_verdict a q m).number ≡ 0
        → Keeping a m.steps m.levels (length m.index) × (0 < f) × ((undo-at (spot_of m.steps q)).number ≡ 0) × (free m.steps (spot_of m.steps q) ≡ true)
    withdraw-passed e =
        let i = spot_of m.steps q in
        let t = kept-passed a m.steps m.levels (length m.index) (unless (ltb 0 f) (refused 13 0 q) (and_then (undo-at i) last)) e in
        let u = passed (ltb 0 f) 12 0 q (and_then (undo-at i) last) t.1 in
        let v = then-passed (undo-at i) last u.1 in
        (t.0, ltb-true 0 f u.0, v.0, (passed (free m.steps i) 12 0 q done v.1).0)

module _ {a : Area} {s : List ℕ} {l : List ℤ} {k : ℕ} (q : Keeping a s l k) (i : ℕ) (h : i < count s) where
  pub undoable-is : (p : List ℤ) → a.size ≡ length p → Undoable p a.stride s l i
  undoable-is p e =
      let b = entered q i h in
      let w = start_small (shape_is a q.shape) b.stand in
      record {
        steps = q.steps;
        levels = q.levels;
        place = omega (arith, q.most);
        deep = b.deep.1;
        wide = (shape_is a q.shape).stride4;
        row = w.0;
        column = w.1;
        reach = subst (λ (z : ℕ). word s i 2 * a.stride + word s i 3 + 3 * a.stride + 4 ≤ z) e b.stand.reach;
        sixteen = b.sixteen;
      }

  pub writable-is : (x : List ℕ) → k ≡ length x → Writable a.width a.rows (word s i 2) (word s i 3) s l x
  writable-is x e =
      let b = entered q i h in
      let z = shape_is a q.shape in
      record {
        steps = q.steps;
        levels = q.levels;
        cells = sym e ∙ q.cells;
        most = q.most;
        wide = le_trans z.width_most z.stride_most;
        high = z.rows_most;
        right = b.stand.right;
        low = b.stand.low;
      }
