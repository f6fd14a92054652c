-- A row's numbers come from that row alone. The promise of the row pass is the same for one lane, four and eight, so this holds of them all, also where the forms differ. Assumes nothing.
--     RowsLeft, rows_left          what the row pass leaves: the promise of `block::rows`, for any number of lanes
--     rows-alone                   two areas that differ in row r0 alone differ in no other row after the row pass
--     OtherRows                    coefficients that agree outside row r0
--     loaded-alone, passed-alone, middle-alone     of these, in every other row the same: what is loaded, what the row pass leaves, and the step after it
use mathlib.Core.Path.{◌≡◌, sym, ap, ◌∙◌}
use mathlib.Core.Bool.{Bool}
use mathlib.Core.List.{List}
use Prim.Native.Nat.{ℕ, ◌+◌, ◌<◌}
use lib.IntN.{ℤ, pos}
use lib.ListN.{get_or}
use contract.Lifetimes.{Lfts}
use denote.Triple.Clauses.{AtExit}
use borrow.Fn.Kinds.{Dens, ended_of}
use Rattle.whole.specs.Grid.{grid_of, rows_by, Same}
use Rattle.tables.specs.Sizes.{cut, scaled}
use Rattle.tables.specs.Dense.{dense_of, first_dense}
use Rattle.groups.proofs.Alone.{line-alone}
use Rattle.passes.specs.Passes.{entry, number_at, loaded, settled_to, middle_of}
use Rattle.passes.proofs.block.rows.Kinds as rows_kinds
use Rattle.passes.proofs.block.rows.Reads as rows

-- ---- the row pass
abbrev pub RowsLeft : ℕ → ℕ → (List ℤ → List ℤ) → List ℤ → List ℤ → Type 0
RowsLeft sw sh K t u = Same sw sh (grid_of sw u) (rows_by K sw (grid_of sw t))

pub rows_left : (κs : Lfts 1) (c : Dens κs rows_kinds.ps) (left : AtExit (ended_of 1 rows_kinds.ps rows_kinds.r) κs) → rows.Learnt κs c tt left
    → RowsLeft c.1.0 c.1.1.0 (first_dense c.1.1.1.0 c.1.1.1.1.0 c.1.1.1.1.1.0) c.0.now left.0.now
rows_left κs c left p = p

pub rows-alone : (sw sh : ℕ) (K : List ℤ → List ℤ) (t s u v : List ℤ) (r0 : ℕ) → RowsLeft sw sh K t u → RowsLeft sw sh K s v
    → ((r x : ℕ) → r < sh → x < sw → (r ≡ r0 → ⊥) → grid_of sw t r x ≡ grid_of sw s r x) → (r x : ℕ) → r < sh → x < sw → (r ≡ r0 → ⊥) → grid_of sw u r x ≡ grid_of sw v r x
rows-alone sw sh K t s u v r0 p q h r x a b d = p r x a b ∙ line-alone K sw (grid_of sw t r) (grid_of sw s r) (λ y l. h r y a l d) x ∙ sym (q r x a b)

-- ---- coefficients of a block of sw by sh that agree outside row r0
abbrev pub OtherRows : Bool → ℕ → ℕ → ℕ → List ℤ → List ℤ → Type 0
OtherRows rowwise sw sh r0 cs ds = (r x : ℕ) → r < sh → x < sw → (r ≡ r0 → ⊥) → get_or cs (number_at rowwise sw sh r x) (pos 0) ≡ get_or ds (number_at rowwise sw sh r x) (pos 0)

pub loaded-alone : (rowwise scale : Bool) (depth sw sh r0 : ℕ) (cs ds : List ℤ) → OtherRows rowwise sw sh r0 cs ds → (r x : ℕ) → r < sh → x < sw → (r ≡ r0 → ⊥)
    → loaded rowwise scale depth sw sh cs r x ≡ loaded rowwise scale depth sw sh ds r x
loaded-alone rowwise scale depth sw sh r0 cs ds h r x a b d = ap (entry scale depth) (h r x a b d)

module _ (rowwise : Bool) (w h hor depth r0 : ℕ) (cs ds : List ℤ) (same : OtherRows rowwise (cut w) (cut h) r0 cs ds) where
  abbrev pub passed : List ℤ → ℕ → ℕ → ℤ
  passed zs = rows_by (dense_of w hor) (cut w) (loaded rowwise (scaled w h) depth (cut w) (cut h) zs)

  pub passed-alone : (r x : ℕ) → r < cut h → (r ≡ r0 → ⊥) → passed cs r x ≡ passed ds r x
  passed-alone r x a d =
      line-alone (dense_of w hor) (cut w) (loaded rowwise (scaled w h) depth (cut w) (cut h) cs r) (loaded rowwise (scaled w h) depth (cut w) (cut h) ds r)
      (λ y l. loaded-alone rowwise (scaled w h) depth (cut w) (cut h) r0 cs ds same r y a l d) x

  pub middle-alone : (first r x : ℕ) → r < cut h → (r ≡ r0 → ⊥) → middle_of rowwise w h first hor depth cs r x ≡ middle_of rowwise w h first hor depth ds r x
  middle-alone first r x a d = ap (settled_to (depth + 7) first) (passed-alone r x a d)
