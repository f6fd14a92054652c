-- A line's numbers come from that line alone, in records of any count. Assumes nothing.
--     line-alone                   what is made of a line depends on its numbers alone
--     group-left                   what a group of L lines leaves, `GroupGives`: the promise of `through`, for any record
--     idle-alone                   two areas that agree on the lines leave the same numbers in them: no idle lane reaches a result
--     idle-kept                    and no place outside the lines is changed
--     LinesLeft, pass-left         what a pass leaves: the promise of `lane_pass`, for any record
--     fours-left, eights-left      the same of records of four lanes and of eight
--     fours-pass, eights-pass      the same of the passes that run: the promise of `fours::lane_pass` and of `eights::lane_pass`
--     eights-group                 what a group in records of eight leaves: the promise of `eights::through`
--     lines-alone                  two areas that agree on a line leave the same numbers in it, whatever the others hold
use mathlib.Core.Path.{◌≡◌, sym, ap, ◌∙◌}
use mathlib.Core.List.{List}
use Prim.Native.Nat.{ℕ, ◌+◌, ◌*◌, ◌<◌}
use lib.IntN.{ℤ, pos}
use lib.ListN.{get_or}
use contract.Lifetimes.{Lfts}
use denote.Triple.Clauses.{AtExit}
use denote.RattleType.{RattleType}
use denote.Param.Laws.{Laws, IsCopy}
use mir.Syntax.{Dict}
use borrow.Fn.Kinds.{Dens, ended_of}
use Rattle.whole.specs.Sums.{tab}
use Rattle.whole.specs.Lanes.{spot}
use Rattle.whole.specs.Grid.{rows_by}
use Rattle.whole.proofs.Fill.{tab-same}
use Rattle.tables.specs.Dense.{first_dense}
use Rattle.groups.proofs.Together.{GroupGives}
use Rattle.lanes.specs.declared.Lanes as Lanes
use Rattle.std.specs.declared.clone.Clone as Clone
use Rattle.groups.proofs.through.Kinds as group-kinds
use Rattle.groups.proofs.through.Reads as group
use Rattle.groups.proofs.lane_pass.Kinds as pass-kinds
use Rattle.groups.proofs.lane_pass.Reads as pass
use Rattle.groups.proofs.eights.through.Kinds as eights-group-kinds
use Rattle.groups.proofs.eights.through.Reads as eights-through
use Rattle.groups.proofs.fours.lane_pass.Kinds as fours-kinds
use Rattle.groups.proofs.fours.lane_pass.Reads as fours
use Rattle.groups.proofs.eights.lane_pass.Kinds as eights-kinds
use Rattle.groups.proofs.eights.lane_pass.Reads as eights

-- a line of w numbers through K
pub line-alone : (K : List ℤ → List ℤ) (w : ℕ) (f g : ℕ → ℤ) → ((x : ℕ) → x < w → f x ≡ g x) → (x : ℕ) → get_or (K (tab w f)) x (pos 0) ≡ get_or (K (tab w g)) x (pos 0)
line-alone K w f g h x = ap (λ l. get_or (K l) x (pos 0)) (tab-same w f g h)

-- ---- a group of L lines, number i of line k at sp k i
module _ (row : RattleType) (laws : Laws row) (copy : IsCopy row) (lanes : Lanes.Ghosts row.Denot) (lanes-dict : Dict) (clone : Clone.Ghosts row.Denot) (clone-dict : Dict) where
  pub group-left : (κs : Lfts 2) (c : Dens κs (group-kinds.ps row laws copy)) (left : AtExit (ended_of 2 (group-kinds.ps row laws copy) (group-kinds.r row laws copy)) κs) → group.Learnt row laws copy lanes lanes-dict clone clone-dict κs c tt left
      → GroupGives c.1.1.1.1.1.1.1.1.0 c.1.1.1.1.0 (first_dense c.1.1.1.1.1.0 c.1.1.1.1.1.1.0 c.1.1.1.1.1.1.1.0) (spot c.1.0 c.1.1.0 c.1.1.1.0) c.0.now left.0.now
  group-left κs c left p = p

pub eights-group : (κs : Lfts 1) (c : Dens κs eights-group-kinds.ps) (left : AtExit (ended_of 1 eights-group-kinds.ps eights-group-kinds.r) κs) → eights-through.Learnt κs c tt left
    → GroupGives c.1.1.1.1.1.1.1.1.0 c.1.1.1.1.0 (first_dense c.1.1.1.1.1.0 c.1.1.1.1.1.1.0 c.1.1.1.1.1.1.1.0) (spot c.1.0 c.1.1.0 c.1.1.1.0) c.0.now left.0.now
eights-group κs c left p = p

module _ (L m : ℕ) (K : List ℤ → List ℤ) (sp : ℕ → ℕ → ℕ) where
  pub idle-alone : (t s u v : List ℤ) → GroupGives L m K sp t u → GroupGives L m K sp s v → ((k i : ℕ) → k < L → i < m → get_or t (sp k i) (pos 0) ≡ get_or s (sp k i) (pos 0))
      → (k i : ℕ) → k < L → i < m → get_or u (sp k i) (pos 0) ≡ get_or v (sp k i) (pos 0)
  idle-alone t s u v p q h k i a b = p.0 k i a b ∙ line-alone K m (λ y. get_or t (sp k y) (pos 0)) (λ y. get_or s (sp k y) (pos 0)) (λ y l. h k y a l) i ∙ sym (q.0 k i a b)

  pub idle-kept : (t u : List ℤ) → GroupGives L m K sp t u → (z : ℕ) → ((k i : ℕ) → k < L → i < m → z ≡ sp k i → ⊥) → get_or u z (pos 0) ≡ get_or t z (pos 0)
  idle-kept t u p = p.1

-- ---- a pass over count lines of m numbers
abbrev pub LinesLeft : ℕ → ℕ → ℕ → ℕ → (List ℤ → List ℤ) → List ℤ → List ℤ → Type 0
LinesLeft count p s m K t u = (k x : ℕ) → k < count → x < m → get_or u (k * s + x * p) (pos 0) ≡ rows_by K m (λ k x. get_or t (k * s + x * p) (pos 0)) k x

module _ (row : RattleType) (laws : Laws row) (copy : IsCopy row) (lanes : Lanes.Ghosts row.Denot) (lanes-dict : Dict) (clone : Clone.Ghosts row.Denot) (clone-dict : Dict) where
  pub pass-left : (κs : Lfts 2) (c : Dens κs (pass-kinds.ps row laws copy)) (left : AtExit (ended_of 2 (pass-kinds.ps row laws copy) (pass-kinds.r row laws copy)) κs) → pass.Learnt row laws copy lanes lanes-dict clone clone-dict κs c tt left
      → LinesLeft c.1.0 c.1.1.0 c.1.1.1.0 c.1.1.1.1.0 (first_dense c.1.1.1.1.1.0 c.1.1.1.1.1.1.0 c.1.1.1.1.1.1.1.0) c.0.now left.0.now
  pass-left κs c left p = p

  -- in records of four and of eight
  pub fours-left : lanes.WIDTH ≡ 4 → (κs : Lfts 2) (c : Dens κs (pass-kinds.ps row laws copy)) (left : AtExit (ended_of 2 (pass-kinds.ps row laws copy) (pass-kinds.r row laws copy)) κs) → pass.Learnt row laws copy lanes lanes-dict clone clone-dict κs c tt left
      → LinesLeft c.1.0 c.1.1.0 c.1.1.1.0 c.1.1.1.1.0 (first_dense c.1.1.1.1.1.0 c.1.1.1.1.1.1.0 c.1.1.1.1.1.1.1.0) c.0.now left.0.now
  fours-left e = pass-left

  pub eights-left : lanes.WIDTH ≡ 8 → (κs : Lfts 2) (c : Dens κs (pass-kinds.ps row laws copy)) (left : AtExit (ended_of 2 (pass-kinds.ps row laws copy) (pass-kinds.r row laws copy)) κs) → pass.Learnt row laws copy lanes lanes-dict clone clone-dict κs c tt left
      → LinesLeft c.1.0 c.1.1.0 c.1.1.1.0 c.1.1.1.1.0 (first_dense c.1.1.1.1.1.0 c.1.1.1.1.1.1.0 c.1.1.1.1.1.1.1.0) c.0.now left.0.now
  eights-left e = pass-left

-- the passes that run
pub fours-pass : (κs : Lfts 1) (c : Dens κs fours-kinds.ps) (left : AtExit (ended_of 1 fours-kinds.ps fours-kinds.r) κs) → fours.Learnt κs c tt left
    → LinesLeft c.1.0 c.1.1.0 c.1.1.1.0 c.1.1.1.1.0 (first_dense c.1.1.1.1.1.0 c.1.1.1.1.1.1.0 c.1.1.1.1.1.1.1.0) c.0.now left.0.now
fours-pass κs c left p = p

pub eights-pass : (κs : Lfts 1) (c : Dens κs eights-kinds.ps) (left : AtExit (ended_of 1 eights-kinds.ps eights-kinds.r) κs) → eights.Learnt κs c tt left
    → LinesLeft c.1.0 c.1.1.0 c.1.1.1.0 c.1.1.1.1.0 (first_dense c.1.1.1.1.1.0 c.1.1.1.1.1.1.0 c.1.1.1.1.1.1.1.0) c.0.now left.0.now
eights-pass κs c left p = p

pub lines-alone : (count p s m : ℕ) (K : List ℤ → List ℤ) (t w u v : List ℤ) → LinesLeft count p s m K t u → LinesLeft count p s m K w v → (k : ℕ) → k < count
    → ((x : ℕ) → x < m → get_or t (k * s + x * p) (pos 0) ≡ get_or w (k * s + x * p) (pos 0)) → (x : ℕ) → x < m → get_or u (k * s + x * p) (pos 0) ≡ get_or v (k * s + x * p) (pos 0)
lines-alone count p s m K t w u v e f k a h x b = e k x a b ∙ line-alone K m (λ x. get_or t (k * s + x * p) (pos 0)) (λ x. get_or w (k * s + x * p) (pos 0)) h x ∙ sym (f k x a b)
