-- Folding. Definitions only; from document 02, section 10. Lists of steps are newest first.
--     joins e ts       the step e becomes one with its partner in ts, where it has one: a step on the same block, at the same depth,
--                      with none between them that shares a sample with it. They become one step in the earlier place; a pair that sums to zero is dropped
--     once ts          one folding: of the pair whose later step stands earliest
--     folding n ts     n such foldings, fewer where no pair is left
--     folded ts        until no pair is left. Each makes the list shorter, so as many as the list is long are enough
--     join_fair e ts    the sum of e and its partner is at most 2^depth - 1 in size
--     once_fair, folding_fair, folded_fair    the sum of one folding, of n, of all
--     fold_of           the whole call
use Rattle.std.specs.Prelude.{Bool, true, cond, ◌&&◌, List, [], ◌∷◌, ℕ, zero, suc, ◌+◌, ◌*◌, leb, eqb, ℤ, pos, neg_ℤ, ◌+ℤ◌, length, set}
use Rattle.answers.specs.declared.Answer.{Answer}
use Rattle.answers.specs.Answers.{done, refused, unless, ends}
use Rattle.whole.specs.Numbers.{in_range, highest}
use Rattle.whole.specs.Search.{seek}
use Rattle.whole.specs.Sums.{tab, item}
use Rattle.wht.specs.Wht.{fwht, iwht}
use Rattle.remain.specs.Remaining.{mark, Entry, count, entries, marks, put_mark, put_on}
use Rattle.remain.specs.Touch.{shares, index_of}
use Rattle.keeping.specs.Range.{Area, kept}

pub data Perhaps (A : Type 0) : Type 0 where
  nothing : Perhaps A
  just : A → Perhaps A

abbrev pub meets : Entry → Entry → Bool
meets e f = shares e.mark.row e.mark.column f.mark.row f.mark.column

abbrev pub alike : Entry → Entry → Bool
alike e f = eqb e.mark.depth f.mark.depth && (eqb e.mark.row f.mark.row && eqb e.mark.column f.mark.column)

-- the summed residuals of two lists of levels
abbrev pub summed : List ℤ → List ℤ → List ℤ
summed v u = tab 16 (λ k. item (iwht v) k +ℤ item (iwht u) k)

abbrev pub is_zero : List ℤ → Bool
is_zero g = leb 16 (seek (λ k. in_range (pos 0) (pos 0) (item g k)) 0 16)

abbrev pub sizes : ℕ → List ℤ → Bool
sizes depth g = leb 16 (seek (λ k. in_range (neg_ℤ (highest depth)) (highest depth) (item g k)) 0 16)

-- ---- one pair
-- f with e added to it, f the earlier one; nothing where they sum to zero
abbrev pub merged : Entry → Entry → List Entry → List Entry
merged e f ts = cond (is_zero (summed f.levels e.levels)) ts (record { mark = f.mark; levels = fwht (summed f.levels e.levels) } ∷ ts)

abbrev pub behind : Entry → Perhaps (List Entry) → Perhaps (List Entry)
behind f nothing = nothing
behind f (just ts) = just (f ∷ ts)

unfoldable pub joins : Entry → List Entry → Perhaps (List Entry)
joins e [] = nothing
joins e (f ∷ ts) = cond (meets e f) (cond (alike e f) (just (merged e f ts)) nothing) (behind f (joins e ts))

-- its sum, where e has a partner, is in range
unfoldable pub join_fair : Entry → List Entry → Bool
join_fair e [] = true
join_fair e (f ∷ ts) = cond (meets e f) (cond (alike e f) (sizes e.mark.depth (summed f.levels e.levels)) true) (join_fair e ts)

-- ---- the rule
abbrev pub or_else : Entry → Perhaps (List Entry) → Perhaps (List Entry) → Perhaps (List Entry)
or_else e (just ts) other = just (e ∷ ts)
or_else e nothing other = other

unfoldable pub once : List Entry → Perhaps (List Entry)
once [] = nothing
once (e ∷ ts) = or_else e (once ts) (joins e ts)

abbrev pub or_stay : {A : Type 0} → Perhaps A → A → (A → A) → A
or_stay nothing stay go = stay
or_stay (just ts) stay go = go ts

unfoldable pub folding : ℕ → List Entry → List Entry
folding zero ts = ts
folding (suc n) ts = or_stay (once ts) ts (folding n)

unfoldable pub folded : List Entry → List Entry
folded ts = folding (length ts) ts

-- whether the sum of each folding is in range
abbrev pub or_fair : {A : Type 0} → Perhaps A → Bool → Bool → Bool
or_fair (just ts) inner here = inner
or_fair nothing inner here = here

unfoldable pub once_fair : List Entry → Bool
once_fair [] = true
once_fair (e ∷ ts) = or_fair (once ts) (once_fair ts) (join_fair e ts)

abbrev pub then_fair : {A : Type 0} → Perhaps A → (A → Bool) → Bool
then_fair nothing go = true
then_fair (just ts) go = go ts

unfoldable pub folding_fair : ℕ → List Entry → Bool
folding_fair zero ts = true
folding_fair (suc n) ts = once_fair ts && then_fair (once ts) (folding_fair n)

unfoldable pub folded_fair : List Entry → Bool
folded_fair ts = folding_fair (length ts) ts

-- ---- the call. The folded steps are written in their order from the first place on, numbered from 1; what lies behind them in memory stays
abbrev pub steps_put : List Entry → List ℕ → List ℕ
steps_put [] s = s
steps_put (e ∷ ts) s = put_mark (length ts) (mark (length ts + 1) e.mark.depth e.mark.row e.mark.column) (steps_put ts s)

abbrev pub steps_folded : List Entry → List ℕ → List ℕ
steps_folded us s = set (steps_put us s) 0 (length us)

abbrev pub levels_folded : List Entry → List ℤ → List ℤ
levels_folded [] l = l
levels_folded (e ∷ ts) l = put_on (16 * length ts) e.levels 16 (levels_folded ts l)

pub record Folded : Type 0 where
  pub steps : List ℕ
  pub levels : List ℤ
  pub index : List ℕ

abbrev pub three_of : List ℕ → List ℤ → List ℕ → Folded
three_of s l x = record { steps = s; levels = l; index = x }

unfoldable pub fold_of : Area → List ℕ → List ℤ → List ℕ → Answer × Folded
fold_of a s l x =
    let ts = entries s l (count s) in
    let us = folded ts in
    ends (kept a s l (length x) (unless (folded_fair ts) (refused 12 0 0) done)) (three_of s l x)
    (three_of (steps_folded us s) (levels_folded us l) (index_of a.width a.rows (marks (steps_folded us s) (length us))))
