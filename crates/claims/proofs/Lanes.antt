-- Lanes, from document 02, section 13: one, four and eight lines through a kernel together. Assumes nothing.
--     three-forms      the passes with one lane, with four and with eight leave the same numbers
--     idle-half        lines in records of eight: two work areas that agree on the lines leave the same numbers in them, so the idle half of a record reaches no result
--     idle-untouched   and no number outside the lines is changed
--     pass-of-lanes    what a pass promises, with any record of lanes
--     pass-of-four, pass-of-eight    the same with records of four lanes and of eight
--     fours-pass, eights-pass        the same of the passes of four and of eight lines that run
--     line-by-line     a line's numbers after a pass depend on that line alone
--     row-pass         what the row pass promises, with one lane, four or eight
--     other-rows       two work areas that differ in one row alone differ in no other row after the row pass
--     other-coefficients    changing the coefficients of one row changes the numbers of no other row after the row pass, in either order of the coefficients
use mathlib.Core.Path.{◌≡◌}
use mathlib.Core.Bool.{Bool}
use mathlib.Core.List.{List}
use Prim.Native.Nat.{ℕ, ◌+◌, ◌*◌, ◌<◌}
use lib.IntN.{ℤ, pos}
use lib.ListN.{get_or}
use contract.Lifetimes.{Lfts}
use denote.Triple.Clauses.{AtExit}
use denote.RattleType.{RattleType}
use denote.Param.Laws.{Laws, IsCopy}
use mir.Syntax.{Dict}
use borrow.Fn.Kinds.{Dens, ended_of}
use Rattle.whole.specs.Grid.{grid_of, Same}
use Rattle.tables.specs.Sizes.{cut}
use Rattle.tables.specs.Dense.{first_dense}
use Rattle.passes.specs.Passes.{sw_of, sh_of, middle_of}
use Rattle.passes.proofs.Agreement.{Leaves, forms-agree}
use Rattle.groups.proofs.Together.{GroupGives}
use Rattle.groups.proofs.Alone as Abreast
use Rattle.groups.proofs.Alone.{LinesLeft}
use Rattle.passes.proofs.Alone as Alone
use Rattle.passes.proofs.Alone.{RowsLeft, OtherRows}
use Rattle.lanes.specs.declared.Lanes as Lanes
use Rattle.std.specs.declared.clone.Clone as Clone
use Rattle.groups.proofs.lane_pass.Kinds as pass-kinds
use Rattle.groups.proofs.lane_pass.Reads as pass
use Rattle.groups.proofs.fours.lane_pass.Kinds as fours-kinds
use Rattle.groups.proofs.fours.lane_pass.Reads as fours
use Rattle.groups.proofs.eights.lane_pass.Kinds as eights-kinds
use Rattle.groups.proofs.eights.lane_pass.Reads as eights
use Rattle.passes.proofs.block.rows.Kinds as rows_kinds
use Rattle.passes.proofs.block.rows.Reads as rows

pub three-forms : (rowwise : Bool) (tx txtp depth : ℕ) (cs one four eight : List ℤ) → Leaves rowwise tx txtp depth cs one → Leaves rowwise tx txtp depth cs four → Leaves rowwise tx txtp depth cs eight
    → Same (sw_of tx) (sh_of tx) (grid_of (sw_of tx) one) (grid_of (sw_of tx) four) × Same (sw_of tx) (sh_of tx) (grid_of (sw_of tx) one) (grid_of (sw_of tx) eight)
three-forms = forms-agree

-- ---- a group of L lines of m numbers, number i of line k at sp k i
module _ (L m : ℕ) (K : List ℤ → List ℤ) (sp : ℕ → ℕ → ℕ) where
  pub idle-half : (t s u v : List ℤ) → GroupGives L m K sp t u → GroupGives L m K sp s v → ((k i : ℕ) → k < L → i < m → get_or t (sp k i) (pos 0) ≡ get_or s (sp k i) (pos 0))
      → (k i : ℕ) → k < L → i < m → get_or u (sp k i) (pos 0) ≡ get_or v (sp k i) (pos 0)
  idle-half = Abreast.idle-alone L m K sp

  pub idle-untouched : (t u : List ℤ) → GroupGives L m K sp t u → (z : ℕ) → ((k i : ℕ) → k < L → i < m → z ≡ sp k i → ⊥) → get_or u z (pos 0) ≡ get_or t z (pos 0)
  idle-untouched = Abreast.idle-kept L m K sp

-- ---- a pass over count lines of m numbers
module _ (row : RattleType) (laws : Laws row) (copy : IsCopy row) (lanes : Lanes.Ghosts row.Denot) (lanes-dict : Dict) (clone : Clone.Ghosts row.Denot) (clone-dict : Dict) where
  pub pass-of-lanes : (κs : Lfts 2) (c : Dens κs (pass-kinds.ps row laws copy)) (left : AtExit (ended_of 2 (pass-kinds.ps row laws copy) (pass-kinds.r row laws copy)) κs) → pass.Learnt row laws copy lanes lanes-dict clone clone-dict κs c tt left
      → LinesLeft c.1.0 c.1.1.0 c.1.1.1.0 c.1.1.1.1.0 (first_dense c.1.1.1.1.1.0 c.1.1.1.1.1.1.0 c.1.1.1.1.1.1.1.0) c.0.now left.0.now
  pass-of-lanes = Abreast.pass-left row laws copy lanes lanes-dict clone clone-dict

  pub pass-of-four : lanes.WIDTH ≡ 4 → (κs : Lfts 2) (c : Dens κs (pass-kinds.ps row laws copy)) (left : AtExit (ended_of 2 (pass-kinds.ps row laws copy) (pass-kinds.r row laws copy)) κs) → pass.Learnt row laws copy lanes lanes-dict clone clone-dict κs c tt left
      → LinesLeft c.1.0 c.1.1.0 c.1.1.1.0 c.1.1.1.1.0 (first_dense c.1.1.1.1.1.0 c.1.1.1.1.1.1.0 c.1.1.1.1.1.1.1.0) c.0.now left.0.now
  pass-of-four = Abreast.fours-left row laws copy lanes lanes-dict clone clone-dict

  pub pass-of-eight : lanes.WIDTH ≡ 8 → (κs : Lfts 2) (c : Dens κs (pass-kinds.ps row laws copy)) (left : AtExit (ended_of 2 (pass-kinds.ps row laws copy) (pass-kinds.r row laws copy)) κs) → pass.Learnt row laws copy lanes lanes-dict clone clone-dict κs c tt left
      → LinesLeft c.1.0 c.1.1.0 c.1.1.1.0 c.1.1.1.1.0 (first_dense c.1.1.1.1.1.0 c.1.1.1.1.1.1.0 c.1.1.1.1.1.1.1.0) c.0.now left.0.now
  pass-of-eight = Abreast.eights-left row laws copy lanes lanes-dict clone clone-dict

pub fours-pass : (κs : Lfts 1) (c : Dens κs fours-kinds.ps) (left : AtExit (ended_of 1 fours-kinds.ps fours-kinds.r) κs) → fours.Learnt κs c tt left
    → LinesLeft c.1.0 c.1.1.0 c.1.1.1.0 c.1.1.1.1.0 (first_dense c.1.1.1.1.1.0 c.1.1.1.1.1.1.0 c.1.1.1.1.1.1.1.0) c.0.now left.0.now
fours-pass = Abreast.fours-pass

pub eights-pass : (κs : Lfts 1) (c : Dens κs eights-kinds.ps) (left : AtExit (ended_of 1 eights-kinds.ps eights-kinds.r) κs) → eights.Learnt κs c tt left
    → LinesLeft c.1.0 c.1.1.0 c.1.1.1.0 c.1.1.1.1.0 (first_dense c.1.1.1.1.1.0 c.1.1.1.1.1.1.0 c.1.1.1.1.1.1.1.0) c.0.now left.0.now
eights-pass = Abreast.eights-pass

pub line-by-line : (count p s m : ℕ) (K : List ℤ → List ℤ) (t w u v : List ℤ) → LinesLeft count p s m K t u → LinesLeft count p s m K w v → (k : ℕ) → k < count
    → ((x : ℕ) → x < m → get_or t (k * s + x * p) (pos 0) ≡ get_or w (k * s + x * p) (pos 0)) → (x : ℕ) → x < m → get_or u (k * s + x * p) (pos 0) ≡ get_or v (k * s + x * p) (pos 0)
line-by-line = Abreast.lines-alone

-- ---- the row pass
pub row-pass : (κs : Lfts 1) (c : Dens κs rows_kinds.ps) (left : AtExit (ended_of 1 rows_kinds.ps rows_kinds.r) κs) → rows.Learnt κs c tt left
    → RowsLeft c.1.0 c.1.1.0 (first_dense c.1.1.1.0 c.1.1.1.1.0 c.1.1.1.1.1.0) c.0.now left.0.now
row-pass = Alone.rows_left

pub other-rows : (sw sh : ℕ) (K : List ℤ → List ℤ) (t s u v : List ℤ) (r0 : ℕ) → RowsLeft sw sh K t u → RowsLeft sw sh K s v
    → ((r x : ℕ) → r < sh → x < sw → (r ≡ r0 → ⊥) → grid_of sw t r x ≡ grid_of sw s r x) → (r x : ℕ) → r < sh → x < sw → (r ≡ r0 → ⊥) → grid_of sw u r x ≡ grid_of sw v r x
other-rows = Alone.rows-alone

pub other-coefficients : (rowwise : Bool) (w h hor depth r0 : ℕ) (cs ds : List ℤ) → OtherRows rowwise (cut w) (cut h) r0 cs ds → (first r x : ℕ) → r < cut h → (r ≡ r0 → ⊥)
    → middle_of rowwise w h first hor depth cs r x ≡ middle_of rowwise w h first hor depth ds r x
other-coefficients = Alone.middle-alone
