-- The index that step, undo and withdrawal mend is the one that a rebuild makes. Assumes nothing.
--     mended-index       the four cells of a block, computed from a new list of steps, make the whole index of that list,
--                        where the lists agree on every cell that shares no sample with the block
use mathlib.Core.Path.{◌≡◌, refl, sym, ap, ◌∙◌, subst}
use mathlib.Core.Bool.{Bool, true, false, ◌&&◌}
use mathlib.Core.List.{List}
use Prim.Native.Nat.{ℕ, ◌+◌, ◌*◌, ◌/◌, ◌%◌, ◌≤◌, ◌<◌}
use native.Mathlib.Nat as N
use native.Mathlib.Decide.{ℕ_discrete}
use native.Mathlib.Omega.{arith}
use borrow.Author.Tests.{ltb-true}
use lib.Dec.{ltb}
use lib.ListN.{length, get_or, length-set}
use lib.Seq.{ext_get_or, get_or-set_same, get_or-set_other}
use Rattle.whole.proofs.Fill.{length-tab, tab-at}
use Rattle.whole.proofs.Cells.{cell_row, cell-column}
use Rattle.remain.specs.Remaining.{Mark}
use Rattle.remain.specs.Touch.{near, shares, last_touch, across, index_of, cell_to, mended}
use Rattle.remain.proofs.Corners.{corner}

-- a row of cells that is neither the block's first nor its last shares nothing with it
near-miss : (y r : ℕ) → (y ≡ r / 4 → ⊥) → (y ≡ (r + 3) / 4 → ⊥) → near (y * 4) r ≡ false
near-miss y r f g = go (ltb (y * 4) (r + 4)) (ltb r (y * 4 + 4)) refl refl
  where
    no_way : y * 4 < r + 4 → r < y * 4 + 4 → ⊥
    no_way p q = omega arith

    go : (a b : Bool) → ltb (y * 4) (r + 4) ≡ a → ltb r (y * 4 + 4) ≡ b → (a && b) ≡ false
    go true true p q = absurd (no_way (ltb-true (y * 4) (r + 4) p) (ltb-true r (y * 4 + 4) q))
    go true false p q = refl
    go false b p q = refl

no-right : (b : Bool) {c : Bool} → c ≡ false → (b && c) ≡ false
no-right true e = e
no-right false e = refl

module _ (width rows r c : ℕ) (right : c + 4 ≤ width) (low : r + 4 ≤ rows) (ms ms' : List Mark)
    (same : (y x : ℕ) → shares (y * 4) (x * 4) r c ≡ false → last_touch (y * 4) (x * 4) ms' ≡ last_touch (y * 4) (x * 4) ms) where
  abbrev new : ℕ → ℕ
  new i = last_touch (i / across width * 4) (i % across width * 4) ms'

  -- one cell written
  cell-right : (l : List ℕ) (y x i : ℕ) → x < across width → y * across width + x < length l → ((i ≡ y * across width + x → ⊥) → get_or l i 0 ≡ new i)
      → get_or (cell_to (across width) ms' y x l) i 0 ≡ new i
  cell-right l y x i h fit k = go (ℕ_discrete i (y * across width + x))
    where
      go : Dec (i ≡ y * across width + x) → get_or (cell_to (across width) ms' y x l) i 0 ≡ new i
      go (yes q) =
          ap (λ j. get_or (cell_to (across width) ms' y x l) j 0) q
          ∙ get_or-set_same l (y * across width + x) (last_touch (y * 4) (x * 4) ms') 0 fit
          ∙ sym (ap new q ∙ (λ t. last_touch (cell_row y h t * 4) (cell-column y h t * 4) ms'))
      go (no q) = get_or-set_other l (y * across width + x) i (last_touch (y * 4) (x * 4) ms') 0 q ∙ k q

  Y0 : r / 4 < across rows
  Y0 = omega arith

  Y1 : (r + 3) / 4 < across rows
  Y1 = omega arith

  X0 : c / 4 < across width
  X0 = omega arith

  X1 : (c + 3) / 4 < across width
  X1 = omega arith

  -- a cell that is none of the four
  miss : (i : ℕ) → (i ≡ r / 4 * across width + c / 4 → ⊥) → (i ≡ r / 4 * across width + (c + 3) / 4 → ⊥)
      → (i ≡ (r + 3) / 4 * across width + c / 4 → ⊥) → (i ≡ (r + 3) / 4 * across width + (c + 3) / 4 → ⊥) → shares (i / across width * 4) (i % across width * 4) r c ≡ false
  miss i n00 n01 n10 n11 = go (ℕ_discrete y (r / 4)) (ℕ_discrete y ((r + 3) / 4)) (ℕ_discrete x (c / 4)) (ℕ_discrete x ((c + 3) / 4))
    where
      y : ℕ
      y = i / across width

      x : ℕ
      x = i % across width

      at : {a b : ℕ} → y ≡ a → x ≡ b → i ≡ a * across width + b
      at p q = sym (N.div-add-mod' i (across width)) ∙ (λ t. p t * across width + q t)

      go : Dec (y ≡ r / 4) → Dec (y ≡ (r + 3) / 4) → Dec (x ≡ c / 4) → Dec (x ≡ (c + 3) / 4) → shares (y * 4) (x * 4) r c ≡ false
      go (yes p) d (yes q) e = absurd (n00 (at p q))
      go (yes p) d (no q) (yes u) = absurd (n01 (at p u))
      go (yes p) d (no q) (no u) = no-right (near (y * 4) r) (near-miss x c q u)
      go (no p) (yes u) (yes q) e = absurd (n10 (at u q))
      go (no p) (yes u) (no q) (yes w) = absurd (n11 (at u w))
      go (no p) (yes u) (no q) (no w) = no-right (near (y * 4) r) (near-miss x c q w)
      go (no p) (no u) d e = ap (λ b. b && near (x * 4) c) (near-miss y r p u)

  pub mended-index : mended (across width) ms' r c (index_of width rows ms) ≡ index_of width rows ms'
  unfolding mended
  mended-index =
      ext_get_or 0 l4 (index_of width rows ms') (long4 ∙ sym (length-tab n new))
      (λ i h. let k = subst (λ (m : ℕ). i < m) long4 h in each i k ∙ sym (tab-at 0 n new i k))
    where
      w : ℕ
      w = across width

      n : ℕ
      n = across rows * across width

      l0 : List ℕ
      l0 = index_of width rows ms

      l1 : List ℕ
      l1 = cell_to (across width) ms' (r / 4) (c / 4) l0

      l2 : List ℕ
      l2 = cell_to (across width) ms' (r / 4) ((c + 3) / 4) l1

      l3 : List ℕ
      l3 = cell_to (across width) ms' ((r + 3) / 4) (c / 4) l2

      l4 : List ℕ
      l4 = cell_to (across width) ms' ((r + 3) / 4) ((c + 3) / 4) l3

      long0 : length l0 ≡ n
      long0 = length-tab n (λ i. last_touch (i / across width * 4) (i % across width * 4) ms)

      long1 : length l1 ≡ n
      long1 = length-set l0 (r / 4 * across width + c / 4) (last_touch (r / 4 * 4) (c / 4 * 4) ms') ∙ long0

      long2 : length l2 ≡ n
      long2 = length-set l1 (r / 4 * across width + (c + 3) / 4) (last_touch (r / 4 * 4) ((c + 3) / 4 * 4) ms') ∙ long1

      long3 : length l3 ≡ n
      long3 = length-set l2 ((r + 3) / 4 * across width + c / 4) (last_touch ((r + 3) / 4 * 4) (c / 4 * 4) ms') ∙ long2

      long4 : length l4 ≡ n
      long4 = length-set l3 ((r + 3) / 4 * across width + (c + 3) / 4) (last_touch ((r + 3) / 4 * 4) ((c + 3) / 4 * 4) ms') ∙ long3

      fits : (l : List ℕ) {y x : ℕ} → length l ≡ n → y < across rows → x < across width → y * across width + x < length l
      fits l {y} {x} e p q = subst (λ (m : ℕ). y * across width + x < m) (sym e) (corner rows width y x p q)

      each : (i : ℕ) → i < n → get_or l4 i 0 ≡ new i
      each i h =
          cell-right l3 ((r + 3) / 4) ((c + 3) / 4) i X1 (fits l3 long3 Y1 X1) (λ n11.
          cell-right l2 ((r + 3) / 4) (c / 4) i X0 (fits l2 long2 Y1 X0) (λ n10.
          cell-right l1 (r / 4) ((c + 3) / 4) i X1 (fits l1 long1 Y0 X1) (λ n01.
          cell-right l0 (r / 4) (c / 4) i X0 (fits l0 long0 Y0 X0) (λ n00.
          tab-at 0 n (λ i. last_touch (i / across width * 4) (i % across width * 4) ms) i h ∙ sym (same (i / across width) (i % across width) (miss i n00 n01 n10 n11))))))
