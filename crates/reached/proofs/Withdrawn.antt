-- A history that calls have led to keeps on holding; and a withdrawal is accepted exactly if its step remains and no later one shares a sample. Assumes nothing.
--     last-after, last-here     the latest step that shares a sample, by the steps after it
--     free-is, free-make        a step is free exactly where no later one shares a sample with it
--     undo-is                   the undo of an entry, as the lossless crate defines it
--     free-undone               the undo of a free step is accepted, and leaves what the list without it leaves
use mathlib.Core.Path.{◌≡◌, refl, sym, ap, ◌∙◌, subst}
use mathlib.Core.Bool.{Bool, true, false, cond}
use mathlib.Core.List.{List, [], ◌∷◌, ◌++◌}
use Prim.Native.Nat.{ℕ, zero, suc, ◌+◌, ◌*◌, ◌-◌, ◌≤◌, ◌<◌}
use native.Mathlib.Nat as N
use native.Mathlib.Decide.{ℕ_discrete}
use native.Mathlib.Numerals.{add-one}
use native.Mathlib.Omega.{arith}
use borrow.Author.Tests.{eqb-true, eq-eqb, le-leb, lt-ltb}
use lib.IntN.{ℤ}
use lib.ListN.{length}
use Rattle.whole.specs.Sums.{item}
use Rattle.answers.specs.declared.Answer.{Answer}
use Rattle.answers.specs.Answers.{done, ends}
use Rattle.whole.proofs.Tests.{and-true}
use Rattle.lossless.specs.Gains.{gained}
use Rattle.lossless.specs.Step.{Step, spot, sample, front, deep, step_of, undo_of}
use Rattle.lossless.proofs.Arguments.{Fine, front-done}
use Rattle.lossless.proofs.Calls.{passed-call}
use Rattle.remain.specs.Remaining.{Entry, count, word, levels_at, entry_at, entries, last}
use Rattle.remain.specs.Touch.{near, shares, free}
use Rattle.remain.specs.Without.{steps_without, levels_without}
use Rattle.keeping.specs.Range.{Area}
use Rattle.history.specs.Calls.{undoing, losses, spots}
use Rattle.keeping.specs.Bounds.{Keeping}
use Rattle.keeping.specs.Steps.{step_in, steps_in}
use Rattle.lossless.specs.Replay.{Apart, Clear, clear, besides, Replay}
use Rattle.keeping.proofs.Facts.{Shape, shape_is, Entered, entered}
use Rattle.lossless.proofs.Withdrawals.{steps-withdraw}
use Rattle.reached.proofs.Blocks.{shares-swap}
use Rattle.reached.proofs.Blocks.{blocks-apart}
use Rattle.reached.proofs.Entries.{later, after, entries-without, entries_with}

-- ---- the last at which a test holds
module _ (p : ℕ → Bool) where
  -- none after it
  pub last-after : (n i : ℕ) → last p n ≡ suc i → (j : ℕ) → i < j → j < n → p j ≡ false
  unfolding last
  last-after zero i e j h l = absurd (N.not-suc-le-zero l)
  last-after (suc n) i e j h l = go (p n) refl e (last-after n i)
    where
      here : p n ≡ false → (j < n → p j ≡ false) → Dec (j ≡ n) → p j ≡ false
      here q r (yes z) = ap p z ∙ q
      here q r (no z) = r (below z)
        where
          below : (j ≡ n → ⊥) → j < n
          below f = omega arith

      go : (b : Bool) → p n ≡ b → cond b (suc n) (last p n) ≡ suc i → (last p n ≡ suc i → (j : ℕ) → i < j → j < n → p j ≡ false) → p j ≡ false
      go true q e r = absurd (omega arith)
      go false q e r = here q (λ u. r e j h u) (ℕ_discrete j n)

  pub last-here : (n i : ℕ) → i < n → p i ≡ true → ((j : ℕ) → i < j → j < n → p j ≡ false) → last p n ≡ suc i
  unfolding last
  last-here zero i h e f = absurd (N.not-suc-le-zero h)
  last-here (suc n) i h e f = go (ℕ_discrete i n) (last-here n i)
    where
      go : Dec (i ≡ n) → (i < n → p i ≡ true → ((j : ℕ) → i < j → j < n → p j ≡ false) → last p n ≡ suc i) → cond (p n) (suc n) (last p n) ≡ suc i
      go (yes z) r = rw (ap p (sym z) ∙ e) (ap suc (sym z))
      go (no z) r = rw (f n (above z) (N.le_refl (suc n))) (r (above z) e (λ j a b. f j a (omega arith)))
        where
          above : (i ≡ n → ⊥) → i < n
          above g = omega arith

-- a block shares its samples with itself
near-self : (a : ℕ) → near a a ≡ true
near-self a = and-true (lt-ltb a (a + 4) (omega arith)) (lt-ltb a (a + 4) (omega arith))

shares-self : (r c : ℕ) → shares r c r c ≡ true
shares-self r c = and-true (near-self r) (near-self c)

module _ (s : List ℕ) (i : ℕ) where
  abbrev pub shared : ℕ → Bool
  shared j = shares (word s i 2) (word s i 3) (word s j 2) (word s j 3)

  -- a free step: no later one shares a sample with it
  pub free-is : free s i ≡ true → (j : ℕ) → i < j → j < count s → shared j ≡ false
  free-is e j h l = last-after shared (count s) i (eqb-true (last shared (count s)) (i + 1) e ∙ add-one i) j h l

  pub free-make : i < count s → ((j : ℕ) → i < j → j < count s → shared j ≡ false) → free s i ≡ true
  free-make h f = eq-eqb (last shared (count s)) (i + 1) (last-here shared (count s) i h (shares-self (word s i 2) (word s i 3)) f ∙ sym (add-one i))

-- ---- lists as steps
steps-append : (a : Area) (es fs : List Entry) → steps_in a (es ++ fs) ≡ steps_in a es ++ steps_in a fs
steps-append a [] fs = refl
steps-append a (e ∷ es) fs = ap (λ l. step_in a e ∷ l) (steps-append a es fs)

-- the undo of an entry in range: the refusals 8 and 10, then its samples lose their residuals
module _ (a : Area) (s : List ℕ) (l : List ℤ) (i : ℕ) (p : List ℤ) (size : a.size ≡ length p) (shape : Shape a) (h : Entered a s l i) where
  abbrev e : Entry
  e = entry_at s l i

  in-range : Fine (length p) (step_in a e)
  in-range =
      record {
        depths = and-true (le-leb 8 (word s i 1) h.deep.0) (le-leb (word s i 1) 12 h.deep.1);
        wide = and-true (le-leb 4 a.stride shape.stride4) (le-leb a.stride 65536 shape.stride_most);
        visible = and-true (le-leb 4 a.width shape.width4) (le-leb a.width a.stride shape.width_most);
        fit =
            and-true (le-leb (word s i 2) 65535 (omega (arith, h.stand.low, shape.rows_most)))
            (and-true (le-leb (word s i 3 + 4) a.width h.stand.right)
            (le-leb ((word s i 2 + 3) * a.stride + word s i 3 + 4) (length p) (omega (arith, h.stand.reach, size, N.add-mul (word s i 2) 3 a.stride))));
        levels = h.sixteen;
      }

  pub undo-is : undo_of p (step_in a e) ≡ ends (undoing a.stride p e) p (gained (spots a.stride (word s i 2) (word s i 3)) (item (losses (levels_at l i))) p)
  undo-is =
      passed-call (front (length p) (step_in a e)) (sample (word s i 1)) (spot (step_in a e).at) p (item (losses (levels_at l i)))
      (ap (λ (x : Answer). x.number) (front-done (length p) (step_in a e) in-range))

-- ---- the undo of a free step
module _ (a : Area) (base : List ℤ) (s : List ℕ) (l : List ℤ) (k i : ℕ) (p : List ℤ) (size : a.size ≡ length p) (q : Keeping a s l k) (h : i < count s)
    (taken : Replay step_of base (steps_in a (entries s l (count s))) p) (f : free s i ≡ true) where
  columns : (j : ℕ) → j < count s → word s j 3 + 4 ≤ a.stride
  columns j u = omega (arith, (entered q j u).stand.right, (shape_is a q.shape).width_most)

  apart : (n : ℕ) → i + n < count s → Clear Apart (step_in a (entry_at s l i)) (steps_in a (later s l i n))
  apart zero u = clear
  apart (suc n) u =
      let j = suc (i + n) in
      let v : j < count s = omega arith in
      besides (blocks-apart a (entry_at s l j) (entry_at s l i) (columns j v) (columns i h)
      (shares-swap (word s j 2) (word s j 3) (word s i 2) (word s i 3) ∙ free-is s i f j (omega arith) v)) (apart n (omega arith))

  fit : 4 * count s + 1 ≤ length s
  fit = omega (arith, q.steps, q.most)

  room : 16 * count s ≤ length l
  room = omega (arith, q.levels, q.most)

  -- accepted, and every step of the list without it is taken and leads to what it leaves
  pub free-undone : (x : List ℤ) × (undo_of p (step_in a (entry_at s l i)) ≡ (done, x))
      × Replay step_of base (steps_in a (entries (steps_without i s) (levels_without i (count s) l) (count s - 1))) x
  free-undone =
      let us = after s l i h fit room in
      let w = steps-withdraw base p (steps_in a us) (steps_in a (entries s l i)) (step_in a (entry_at s l i)) (apart (count s - 1 - i) (omega arith))
      (subst (λ (t : List Step). Replay step_of base t p) (ap (steps_in a) (entries_with s l i h fit room) ∙ steps-append a us (entry_at s l i ∷ entries s l i)) taken) in
      (w.0, w.1, subst (λ (t : List Step). Replay step_of base t w.0) (sym (ap (steps_in a) (entries-without s l i h fit room) ∙ steps-append a us (entries s l i))) w.2)

  -- so neither 8 nor 10 applies
  pub free-answer : (undoing a.stride p (entry_at s l i)).number ≡ 0
  free-answer =
      ap (λ (x : Answer × List ℤ). x.0.number)
      (sym (undo-is a s l i p size (shape_is a q.shape) (entered q i h)) ∙ free-undone.1)
