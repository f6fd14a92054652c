-- The folded list, put in the place of the list. Assumes nothing.
--     Whole                       each step has sixteen levels
--     steps-above, levels-above   what lies behind the places written
--     Putting, putting-start, -asks, -more, -done     a loop that has put the groups of the first h steps
use mathlib.Core.Path.{◌≡◌, refl, sym, ap, ◌∙◌, subst}
use mathlib.Core.Bool.{Bool, true, false, cond}
use mathlib.Core.List.{List, [], ◌∷◌}
use Prim.Native.Nat.{ℕ, zero, suc, ◌+◌, ◌*◌, ◌^◌, ◌≤◌, ◌<◌, zero-le}
use native.Mathlib.Nat as N
use native.Mathlib.Numerals.{add-one}
use native.Mathlib.Omega.{arith}
use borrow.Author.Tests.{eqb-true, eqb-false}
use lib.Dec.{eqb}
use lib.IntN.{ℤ, nat_abs}
use lib.ListN.{length, get_or, set, length-set}
use lib.Seq.{get_or-set_other}
use Rattle.whole.proofs.Fill.{tab-same}
use Rattle.wht.specs.Wht.{fwht}
use Rattle.wht.specs.Calls.{Sixteen}
use Rattle.wht.proofs.Inverse.{fwht-length}
use Rattle.remain.specs.Remaining.{mark, Entry, word, levels_at, entries, put_mark, put_on}
use Rattle.folding.specs.Fold.{steps_put, steps_folded, levels_folded}
use Rattle.folding.specs.Pass.{one_pass}
use Rattle.folding.specs.Owners.{owner, total, sum_of, group_at, groups, Listed, Owned, Puts, Put}
use Rattle.reached.proofs.Entries.{whole, levels-after}
use Rattle.folding.proofs.Owners.{total-by, groups-more, groups-past}

pub data Whole : List Entry → Type 0 where
  nil : Whole []
  cons : {e : Entry} {ts : List Entry} → length e.levels ≡ 16 → Whole ts → Whole (e ∷ ts)

pub groups-whole : (w : ℕ → ℕ) (s : List ℕ) (l : List ℤ) (n h : ℕ) → Whole (groups w s l n h)
unfolding groups
groups-whole w s l n zero = nil
groups-whole w s l n (suc h) = go (eqb (w h) h) (groups-whole w s l n h)
  where
    go : (b : Bool) → Whole (groups w s l n h) → Whole (cond b (group_at w s l n h ∷ groups w s l n h) (groups w s l n h))
    go true r = cons (fwht-length (sum_of w l n h)) r
    go false r = r

pub groups-most : (w : ℕ → ℕ) (s : List ℕ) (l : List ℤ) (n h : ℕ) → length (groups w s l n h) ≤ h
unfolding groups
groups-most w s l n zero = zero-le
groups-most w s l n (suc h) = go (eqb (w h) h) (groups-most w s l n h)
  where
    go : (b : Bool) → length (groups w s l n h) ≤ h → length (cond b (group_at w s l n h ∷ groups w s l n h) (groups w s l n h)) ≤ suc h
    go true r = omega arith
    go false r = omega arith

-- ---- behind the places written
pub steps-long : (us : List Entry) (s : List ℕ) → length (steps_put us s) ≡ length s
steps-long [] s = refl
steps-long (e ∷ ts) s = simp length-set (steps-long ts s)

pub steps-above : (us : List Entry) (s : List ℕ) (p : ℕ) → 4 * length us + 1 ≤ p → get_or (steps_put us s) p 0 ≡ get_or s p 0
steps-above [] s p h = refl
steps-above (e ∷ ts) s p h =
    let b = 4 * length ts + 1 in
    let s1 = set (steps_put ts s) b (length ts + 1) in
    let s2 = set s1 (b + 1) e.mark.depth in
    let s3 = set s2 (b + 2) e.mark.row in
    get_or-set_other s3 (b + 3) p e.mark.column 0 (λ z. absurd (omega arith)) ∙ get_or-set_other s2 (b + 2) p e.mark.row 0 (λ z. absurd (omega arith))
    ∙ get_or-set_other s1 (b + 1) p e.mark.depth 0 (λ z. absurd (omega arith)) ∙ get_or-set_other (steps_put ts s) b p (length ts + 1) 0 (λ z. absurd (omega arith))
    ∙ steps-above ts s p (omega arith)

pub levels-long : {us : List Entry} → Whole us → (l : List ℤ) → 16 * length us ≤ length l → length (levels_folded us l) ≡ length l
levels-long nil l h = refl
levels-long (cons {e} {ts} q r) l h =
    let a = levels-long r l (omega arith) in
    whole (length ts) (levels_folded ts l) e.levels q (omega arith) ∙ a

pub levels-above : {us : List Entry} → Whole us → (l : List ℤ) → 16 * length us ≤ length l → (j : ℕ) → length us ≤ j → 16 * j + 16 ≤ length l → levels_at (levels_folded us l) j ≡ levels_at l j
levels-above nil l h j a b = refl
levels-above (cons {e} {ts} q r) l h j a b =
    let n = levels-long r l (omega arith) in
    levels-after (length ts) (levels_folded ts l) e.levels q (omega arith) j a (omega arith) ∙ levels-above r l (omega arith) j (omega arith) b

-- ---- the loop
pub record Putting (s₀ : List ℕ) (l₀ : List ℤ) (o : List ℕ) (n : ℕ) (s : List ℕ) (l : List ℤ) (m h : ℕ) : Type 0 where
  pub most : h ≤ n
  pub next : m ≡ length (groups (owner o) s₀ l₀ n h)
  pub steps : s ≡ steps_put (groups (owner o) s₀ l₀ n h) s₀
  pub levels : l ≡ levels_folded (groups (owner o) s₀ l₀ n h) l₀

module _ (s₀ : List ℕ) (l₀ : List ℤ) (o : List ℕ) (n : ℕ) (q : Listed s₀ l₀ n) (p : Owned s₀ l₀ o n) where
  pub putting-start : Putting s₀ l₀ o n s₀ l₀ 0 0
  unfolding groups
  putting-start = record { most = zero-le; next = refl; steps = refl; levels = refl }

  module _ {s : List ℕ} {l : List ℤ} {m h : ℕ} (r : Putting s₀ l₀ o n s l m h) where
    abbrev us : List Entry
    us = groups (owner o) s₀ l₀ n h

    pub room : m ≤ h
    room = omega (arith, r.next, groups-most (owner o) s₀ l₀ n h)

    pub steps-count : length s ≡ 16385
    steps-count = ap length r.steps ∙ steps-long us s₀ ∙ q.steps

    fit : 16 * length us ≤ length l₀
    fit = omega (arith, q.levels, q.most, r.most, groups-most (owner o) s₀ l₀ n h)

    pub levels-count : length l ≡ 65536
    levels-count = ap length r.levels ∙ levels-long (groups-whole (owner o) s₀ l₀ n h) l₀ fit ∙ q.levels

    module _ (less : h < n) where
      word-is : (k : ℕ) → word s h k ≡ word s₀ h k
      word-is k = ap (λ (t : List ℕ). get_or t (4 * h + 1 + k) 0) r.steps ∙ steps-above us s₀ (4 * h + 1 + k) (omega (arith, groups-most (owner o) s₀ l₀ n h))

      member_is : (j : ℕ) → j < n → owner o j ≡ h → levels_at l j ≡ levels_at l₀ j
      member_is j a b =
          let c : h ≤ j = omega (arith, q.most, p.below j a (omega (arith, q.most))) in
          ap (λ (t : List ℤ). levels_at t j) r.levels
          ∙ levels-above (groups-whole (owner o) s₀ l₀ n h) l₀ fit j (omega (arith, groups-most (owner o) s₀ l₀ n h)) (omega (arith, q.levels, q.most))

      total-is : (i : ℕ) → i ≤ n → (k : ℕ) → total (owner o) l h i k ≡ total (owner o) l₀ h i k
      total-is i a k = total-by (owner o) (owner o) l₀ l h i (λ j b. refl) (λ j b c. member_is j (omega arith) c) k

      pub putting-asks : Puts s l o n h m
      putting-asks =
          record {
            steps = steps-count;
            levels = levels-count;
            owners = p.long;
            most = q.most;
            less = less;
            room = room;
            row = subst (λ (x : ℕ). x < 2 ^ 32) (sym (word-is 2)) (q.near h less).0;
            column = subst (λ (x : ℕ). x < 2 ^ 32) (sym (word-is 3)) (q.near h less).1;
            sums = λ z. let t = p.sums h less z in record {
              each = λ j a b. subst (Sixteen 262144) (sym (member_is j a b)) (t.each j a b);
              part = λ i k a b. subst (λ (x : ℤ). nat_abs x ≤ 1048576) (sym (total-is i a k)) (t.part i k a b);
            };
          }

      pub putting-more : {s' : List ℕ} {l' : List ℤ} {m' : ℕ} → Put s l o n h m s' l' m' (eqb (owner o h) h) → Putting s₀ l₀ o n s' l' m' (h + 1)
      putting-more {s'} {l'} {m'} t = subst (Putting s₀ l₀ o n s' l' m') (sym (add-one h)) (go (eqb (owner o h) h) refl t)
        where
          go : (b : Bool) → eqb (owner o h) h ≡ b → Put s l o n h m s' l' m' b → Putting s₀ l₀ o n s' l' m' (suc h)
          go true x t =
              let g = groups-more (owner o) s₀ l₀ n h (eqb-true (owner o h) h x) in
              let z = tab-same 16 (total (owner o) l h n) (total (owner o) l₀ h n) (λ k _. total-is n (N.le_refl n) k) in
              record {
                most = less;
                next = t.next ∙ add-one m ∙ ap suc r.next ∙ sym (ap length g);
                steps = t.steps ∙ (λ i. put_mark (r.next i) (mark (r.next i + 1) (word-is 1 i) (word-is 2 i) (word-is 3 i)) (r.steps i)) ∙ sym (ap (λ (v : List Entry). steps_put v s₀) g);
                levels = t.levels ∙ (λ i. put_on (16 * r.next i) (fwht (z i)) 16 (r.levels i)) ∙ sym (ap (λ (v : List Entry). levels_folded v l₀) g);
              }
          go false x t =
              let g = groups-past (owner o) s₀ l₀ n h (eqb-false (owner o h) h x) in
              record {
                most = less;
                next = t.next ∙ r.next ∙ sym (ap length g);
                steps = t.steps ∙ r.steps ∙ sym (ap (λ (v : List Entry). steps_put v s₀) g);
                levels = t.levels ∙ r.levels ∙ sym (ap (λ (v : List Entry). levels_folded v l₀) g);
              }

    pub putting-done : n ≤ h → (set s 0 m ≡ steps_folded (one_pass (entries s₀ l₀ n)) s₀) × (l ≡ levels_folded (one_pass (entries s₀ l₀ n)) l₀)
    putting-done a =
        let z : h ≡ n = omega (arith, r.most) in
        let g = ap (groups (owner o) s₀ l₀ n) z ∙ sym p.is in
        ((λ i. set (r.steps i) 0 (r.next i)) ∙ ap (λ (v : List Entry). steps_folded v s₀) g, r.levels ∙ ap (λ (v : List Entry). levels_folded v l₀) g)
