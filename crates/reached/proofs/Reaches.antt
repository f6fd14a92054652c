-- What holds of every history that calls have led to. Assumes nothing.
--     rebuild-same      a rebuild is accepted and gives the same index
--     reached-good      in range, the plane is the remaining steps replayed from the first one, each of them taken, and the index is what the list says
--     undo-steps, undo-levels     an undo only lowers the count: of the list nothing else is written
--     can-withdraw-is   the question whether a step may be withdrawn is answered as the withdrawal is
use mathlib.Core.Path.{◌≡◌, refl, sym, ap, ◌∙◌, subst}
use mathlib.Core.Bool.{Bool, true, false, ◌&&◌, cond}
use mathlib.Core.List.{List}
use Prim.Native.Nat.{ℕ, ◌+◌, ◌*◌, ◌-◌}
use native.Mathlib.Nat.{not-le_of_lt}
use borrow.Author.Tests.{leb-true, ltb-true}
use lib.Dec.{leb, ltb}
use lib.IntN.{ℤ, pos}
use lib.ListN.{length, get_or, set}
use Rattle.answers.specs.declared.Answer.{Answer}
use Rattle.answers.specs.Answers.{done, ends}
use Rattle.whole.proofs.Fill.{tab-same, tab-list}
use Rattle.remain.specs.Remaining.{count, marks}
use Rattle.remain.specs.Touch.{index_of}
use Rattle.remain.specs.Without.{slid, steps_without, levels_without}
use Rattle.keeping.specs.Range.{Area}
use Rattle.history.specs.Calls as C
use Rattle.history.specs.Calls.{Lent, lent, withdraw_verdict}
use Rattle.reached.specs.Holds.{Good, Reached, begun, stepped, undone, withdrawn, rebuilt}
use Rattle.reached.proofs.Calls.{kept-make}
use Rattle.reached.proofs.Always.{good-empty, good-step, good-undo, good-withdraw}

pub rebuild-same : (a : Area) (base : List ℤ) (m : Lent) → Good a base m → C.rebuild_of a m.steps m.levels m.index ≡ (done, m.index)
unfolding C.rebuild_of
rebuild-same a base m g =
    ap (λ (v : Answer). ends v m.index (index_of a.width a.rows (marks m.steps (count m.steps)))) (kept-make g.keeping done)
    ∙ ap (λ (x : List ℕ). (done, x)) (sym g.index_is)

pub reached-good : (a : Area) (base : List ℤ) (m : Lent) → Reached a base m → Good a base m
reached-good a base m (begun b e) = subst (λ (p : List ℤ). Good a p m) e (good-empty a m b.size b.shape b.steps b.levels b.empty b.index)
reached-good a base m (stepped {m = n} d r c v h) = good-step a base n (reached-good a base n h) d r c v
reached-good a base m (undone {m = n} h) = good-undo a base n (reached-good a base n h)
reached-good a base m (withdrawn {m = n} q h) = good-withdraw a base n (reached-good a base n h) q
reached-good a base m (rebuilt {m = n} h) =
    let g = reached-good a base n h in
    subst (λ (x : List ℕ). Good a base (lent n.plane n.steps n.levels x)) (sym (ap (λ (y : Answer × List ℕ). y.1) (rebuild-same a base n g))) g

pub can-withdraw-is : (a : Area) (q : ℕ) (m : Lent) → (C.withdraw_of a q m).0 ≡ withdraw_verdict a q m
unfolding C.withdraw_of
can-withdraw-is a q m = refl

-- nothing moves down over an empty range
slid-none : {A : Type 0} (z : A) (a n : ℕ) (l : List A) → slid z a a n l ≡ l
unfolding slid
slid-none z a n l =
    tab-same (length l) (λ j. cond (leb a j && ltb j a) (get_or l (j + n) z) (get_or l j z)) (λ j. get_or l j z) (λ j h. here j (leb a j) (ltb j a) refl refl) ∙ tab-list z l
  where
    here : (j : ℕ) (b c : Bool) → leb a j ≡ b → ltb j a ≡ c → cond (b && c) (get_or l (j + n) z) (get_or l j z) ≡ get_or l j z
    here j true true p q = absurd (not-le_of_lt (ltb-true j a q) (leb-true a j p))
    here j true false p q = refl
    here j false c p q = refl

pub undo-steps : (s : List ℕ) → steps_without (count s - 1) s ≡ set s 0 (count s - 1)
undo-steps s = ap (λ (t : List ℕ). set t 0 (count s - 1)) (slid-none 0 (4 * (count s - 1) + 1) 4 s)

pub undo-levels : (n : ℕ) (l : List ℤ) → levels_without (n - 1) n l ≡ l
undo-levels n l = slid-none (pos 0) (16 * (n - 1)) 16 l
