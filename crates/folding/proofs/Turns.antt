-- The owners, step by step. Assumes nothing.
--     owned-start                       before the first step
--     stays                             a step that finds no partner
--     refused                           a sum that leaves its range
--     joins-it                          a step that goes into its partner
--     unfair                            a refusal stays one
use mathlib.Core.Path.{◌≡◌, refl, sym, ap, ◌∙◌, subst}
use mathlib.Core.Bool.{Bool, true, false, cond, ◌&&◌}
use mathlib.Core.List.{List, ◌∷◌}
use Prim.Native.Nat.{ℕ, zero, suc, ◌^◌, ◌≤◌, ◌<◌}
use native.Mathlib.Nat as N
use native.Mathlib.Decide.{ℕ_discrete}
use native.Mathlib.Omega.{arith}
use borrow.Author.Tests.{eqb-true, ne_eqb, leb-true}
use lib.Dec.{T, eqb, lit≤}
use lib.IntN.{ℤ, pos, neg_ℤ, nat_abs, ◌+ℤ◌, +ℤ_idl}
use lib.ListN.{length, set, length-set}
use lib.Pow.{pow_mono}
use lib.Seq.{get_or-set_same, get_or-set_other}
use Rattle.whole.specs.Numbers.{in_range, highest}
use Rattle.whole.specs.Sums.{tab, item}
use Rattle.whole.proofs.Fill.{tab-same, tab-at}
use Rattle.whole.proofs.Range.{in-range-size}
use Rattle.whole.proofs.Search.{seek-passed}
use Rattle.whole.proofs.Size.{abs_neg}
use Rattle.wht.specs.Wht.{fwht, iwht}
use Rattle.wht.proofs.Size.{iwht-size}
use Rattle.remain.specs.Remaining.{Entry, word, mark_at, levels_at, entry_at, entries, last}
use Rattle.remain.specs.Touch.{touches}
use Rattle.folding.specs.Fold.{Perhaps, nothing, just, is_zero, sizes, joins, join_fair}
use Rattle.folding.specs.Pass.{placed, one_pass, pass_fair}
use Rattle.folding.specs.Owners.{owner, total, sum_of, groups, partner, alike_at, Listed, Owned, Placed}
use Rattle.folding.proofs.Owners.{total-by, total-none, total-more, total-past, groups-same, groups-more, groups-past, entry-back, fair-by, here-by}

false-true : {A : Type 0} → false ≡ true → A
false-true e = absurd (subst (λ (b : Bool). T (cond b false true)) e tt)

pub owned-start : (s : List ℕ) (l : List ℤ) (o : List ℕ) → length o ≡ 4096 → Owned s l o 0
unfolding one_pass groups
owned-start s l o e =
    record { long = e; below = λ j h. absurd (N.not-suc-le-zero h); sums = λ h i. absurd (N.not-suc-le-zero i); is = refl }

pub unfair : (s : List ℕ) (l : List ℤ) (i n : ℕ) → i ≤ n → pass_fair (entries s l i) ≡ false → pass_fair (entries s l n) ≡ false
unfolding pass_fair
unfair s l i zero h e = subst (λ (j : ℕ). pass_fair (entries s l j) ≡ false) (let q : i ≡ 0 = omega arith in q) e
unfair s l i (suc n) h e = go (ℕ_discrete i (suc n)) (λ k. unfair s l i n k e)
  where
    less : (i ≡ suc n → ⊥) → i ≤ n
    less f = omega arith

    go : Dec (i ≡ suc n) → (i ≤ n → pass_fair (entries s l n) ≡ false) → pass_fair (entries s l (suc n)) ≡ false
    go (yes q) r = subst (λ (j : ℕ). pass_fair (entries s l j) ≡ false) q e
    go (no q) r = ap (λ b. b && join_fair (entry_at s l n) (one_pass (entries s l n))) (r (less q))

-- a sum that passed its test is small
pub sum-small : (d : ℕ) → d ≤ 12 → (f : ℕ → ℤ) → sizes d (tab 16 f) ≡ true → (k : ℕ) → k < 16 → nat_abs (f k) ≤ 4095
sum-small d h f e k i =
    let m : 2 ^ d ≤ 4096 = pow_mono h in
    let a : nat_abs (highest d) ≤ 4095 = omega arith in
    let b : nat_abs (neg_ℤ (highest d)) ≤ 4095 = N.le_trans (N.le_of_eq (abs_neg (highest d))) a in
    subst (λ (z : ℤ). nat_abs z ≤ 4095) (tab-at (pos 0) 16 f k i)
    (in-range-size 4095 (neg_ℤ (highest d)) (highest d) (item (tab 16 f) k) b a
    (seek-passed (λ k. in_range (neg_ℤ (highest d)) (highest d) (item (tab 16 f) k)) 16 (leb-true 16 _ e) k i))

module _ (s : List ℕ) (l : List ℤ) (o : List ℕ) (i : ℕ) (q : Listed s l (suc i)) (p : Owned s l o i) (f : pass_fair (entries s l i) ≡ true) where
  abbrev e : Entry
  e = entry_at s l i

  abbrev G : List Entry
  G = groups (owner o) s l i i

  few : i < 4096
  few = q.most

  pass-is : (x : Perhaps (List Entry)) → joins e G ≡ x → one_pass (entries s l (suc i)) ≡ placed e G x
  unfolding one_pass
  pass-is x y = ap (λ us. placed e us (joins e us)) p.is ∙ ap (placed e G) y

  fair-is : (b : Bool) → join_fair e G ≡ b → pass_fair (entries s l (suc i)) ≡ b
  unfolding pass_fair
  fair-is b y = (λ t. f t && join_fair e (p.is t)) ∙ y

  residual-small : (k : ℕ) → nat_abs (item (iwht (levels_at l i)) k) ≤ 1048576
  residual-small k = iwht-size (levels_at l i) (q.sixteen i (N.le_refl (suc i))).small k

  pub refused : (o' : List ℕ) → length o' ≡ 4096 → join_fair e G ≡ false → Placed s l o' (suc i) false
  refused o' n y = record { fair = fair-is false y; long = n; owned = λ z. false-true z }

  -- ---- no partner
  module _ (none : joins e G ≡ nothing) (fair : join_fair e G ≡ true) where
    abbrev o₁ : List ℕ
    o₁ = set o i i

    at_i : owner o₁ i ≡ i
    at_i = get_or-set_same o i i 0 (omega (arith, p.long, few))

    at_j : (j : ℕ) → j < i → owner o₁ j ≡ owner o j
    at_j j h = get_or-set_other o i j i 0 (λ z. absurd (omega arith))

    none_before : (j : ℕ) → j < i → owner o₁ j ≡ i → ⊥
    none_before j h z = omega (arith, few, at_j j h, p.below j h (omega (arith, few, at_j j h)))

    old-total : (h m : ℕ) → m ≤ i → (k : ℕ) → total (owner o₁) l h m k ≡ total (owner o) l h m k
    old-total h m a k = total-by (owner o) (owner o₁) l l h m (λ j b. ap (λ (x : ℕ). eqb x h) (at_j j (omega arith))) (λ j b c. refl) k

    own-sum : (k : ℕ) → total (owner o₁) l i (suc i) k ≡ pos 0 +ℤ item (iwht (levels_at l i)) k
    own-sum k = total-more (owner o₁) l i i k at_i ∙ ap (λ z. z +ℤ item (iwht (levels_at l i)) k) (total-none (owner o₁) l i i none_before k)

    part : (h : ℕ) → h < suc i → owner o₁ h ≡ h → (m k : ℕ) → m ≤ suc i → k < 16 → Dec (h ≡ i) → Dec (m ≡ suc i) → nat_abs (total (owner o₁) l h m k) ≤ 1048576
    part h a b m k c d (yes x) (yes y) =
        subst (λ (z : ℤ). nat_abs z ≤ 1048576) (sym ((λ t. total (owner o₁) l (x t) (y t) k) ∙ own-sum k ∙ +ℤ_idl (item (iwht (levels_at l i)) k))) (residual-small k)
    part h a b m k c d (yes x) (no y) =
        subst (λ (z : ℤ). nat_abs z ≤ 1048576) (sym (ap (λ (g : ℕ). total (owner o₁) l g m k) x ∙ total-none (owner o₁) l i m (λ j r. none_before j (omega arith)) k)) (lit≤ tt)
    part h a b m k c d (no x) (yes y) =
        let u : h < i = omega arith in
        subst (λ (z : ℤ). nat_abs z ≤ 1048576)
        (sym (ap (λ (n : ℕ). total (owner o₁) l h n k) y ∙ total-past (owner o₁) l h i k (λ r. x (sym r ∙ at_i)) ∙ old-total h i (N.le_refl i) k))
        ((p.sums h u (sym (at_j h u) ∙ b)).part i k (N.le_refl i) d)
    part h a b m k c d (no x) (no y) =
        let u : h < i = omega arith in
        let v : m ≤ i = omega arith in
        subst (λ (z : ℤ). nat_abs z ≤ 1048576) (sym (old-total h m v k)) ((p.sums h u (sym (at_j h u) ∙ b)).part m k v d)

    pub stays : Placed s l o₁ (suc i) true
    stays =
        record {
          fair = fair-is true fair;
          long = length-set o i i ∙ p.long;
          owned = λ _. record {
            long = length-set o i i ∙ p.long;
            below = λ j a b. low j a b (ℕ_discrete j i);
            sums = λ h a b. record { each = λ j c d. q.sixteen j c; part = λ m k c d. part h a b m k c d (ℕ_discrete h i) (ℕ_discrete m (suc i)) };
            is = pass-is nothing none ∙ (λ t. record { mark = mark_at s i; levels = back t } ∷ before t) ∙ sym (groups-more (owner o₁) s l (suc i) i at_i);
          };
        }
      where
        low : (j : ℕ) → j < suc i → owner o₁ j < 4096 → Dec (j ≡ i) → owner o₁ j ≤ j
        low j a b (yes x) = subst (λ (n : ℕ). owner o₁ n ≤ n) (sym x) (N.le_of_eq at_i)
        low j a b (no x) = let u : j < i = omega arith in omega (arith, at_j j u, p.below j u (omega (arith, at_j j u)))

        back : levels_at l i ≡ fwht (sum_of (owner o₁) l (suc i) i)
        back = sym (ap fwht (tab-same 16 (total (owner o₁) l i (suc i)) (λ k. pos 0 +ℤ item (iwht (levels_at l i)) k) (λ k _. own-sum k)) ∙ entry-back (levels_at l i) (q.sixteen i (N.le_refl (suc i))).count)

        before : G ≡ groups (owner o₁) s l (suc i) i
        before =
            sym (groups-same (owner o) (owner o₁) s l i (suc i) i (λ j a. ap (λ (x : ℕ). eqb x j) (at_j j a))
            (λ j a b k. total-past (owner o₁) l j i k (λ r. absurd (omega (arith, at_i))) ∙ old-total j i (N.le_refl i) k))

  -- ---- a partner
  module _ (h : ℕ) (less : h < i) (found : partner (owner o) s (word s i 2) (word s i 3) i ≡ suc h) (same : alike_at s i h ≡ true) (head : owner o h ≡ h) where
    abbrev sum : List ℤ
    sum = tab 16 (λ k. total (owner o) l h i k +ℤ item (iwht (levels_at l i)) k)

    pub fair-here : join_fair e G ≡ sizes (word s i 1) sum
    fair-here = fair-by (owner o) s l i e h same i found

    module _ (fair : sizes (word s i 1) sum ≡ true) (o₂ : List ℕ) (long : length o₂ ≡ 4096) (at-i₂ : owner o₂ i ≡ h) (at-j₂ : (j : ℕ) → j < i → (j ≡ h → ⊥) → owner o₂ j ≡ owner o j)
        (kept : is_zero sum ≡ false → owner o₂ h ≡ h) (gone : is_zero sum ≡ true → owner o₂ h ≡ 4096) where
      -- another step's sum
      heads : (g j : ℕ) → g < i → (g ≡ h → ⊥) → j < i → Dec (j ≡ h) → eqb (owner o₂ j) g ≡ eqb (owner o j) g
      heads g j a b c (no x) = ap (λ (n : ℕ). eqb n g) (at-j₂ j c x)
      heads g j a b c (yes x) =
          ap (λ (n : ℕ). eqb (owner o₂ n) g) x ∙ ne_eqb (owner o₂ h) g (by (is_zero sum) refl) ∙ sym (ap (λ (n : ℕ). eqb (owner o n) g) x ∙ ne_eqb (owner o h) g (λ r. b (sym r ∙ head)))
        where
          by : (z : Bool) → is_zero sum ≡ z → owner o₂ h ≡ g → ⊥
          by true y r = omega (arith, gone y, few)
          by false y r = b (sym r ∙ kept y)

      other : (g m : ℕ) → g < i → (g ≡ h → ⊥) → m ≤ i → (k : ℕ) → total (owner o₂) l g m k ≡ total (owner o) l g m k
      other g m a b c k = total-by (owner o) (owner o₂) l l g m (λ j d. heads g j a b (omega arith) (ℕ_discrete j h)) (λ j d z. refl) k

      other-all : (g : ℕ) → g < i → (g ≡ h → ⊥) → (k : ℕ) → total (owner o₂) l g (suc i) k ≡ total (owner o) l g i k
      other-all g a b k = total-past (owner o₂) l g i k (λ r. b (sym r ∙ at-i₂)) ∙ other g i a b (N.le_refl i) k

      -- its own sum, where it stays
      module _ (z : is_zero sum ≡ false) where
        same-owner : (j : ℕ) → j < i → Dec (j ≡ h) → eqb (owner o₂ j) h ≡ eqb (owner o j) h
        same-owner j a (no x) = ap (λ (n : ℕ). eqb n h) (at-j₂ j a x)
        same-owner j a (yes x) = ap (λ (n : ℕ). eqb (owner o₂ n) h) x ∙ ap (λ (n : ℕ). eqb n h) (kept z ∙ sym head) ∙ sym (ap (λ (n : ℕ). eqb (owner o n) h) x)

        own : (m : ℕ) → m ≤ i → (k : ℕ) → total (owner o₂) l h m k ≡ total (owner o) l h m k
        own m a k = total-by (owner o) (owner o₂) l l h m (λ j d. same-owner j (omega arith) (ℕ_discrete j h)) (λ j d y. refl) k

        own-all : (k : ℕ) → total (owner o₂) l h (suc i) k ≡ total (owner o) l h i k +ℤ item (iwht (levels_at l i)) k
        own-all k = total-more (owner o₂) l h i k at-i₂ ∙ ap (λ y. y +ℤ item (iwht (levels_at l i)) k) (own i (N.le_refl i) k)

      part₂ : (g : ℕ) → g < suc i → owner o₂ g ≡ g → (m k : ℕ) → m ≤ suc i → k < 16 → Dec (g ≡ i) → Dec (g ≡ h) → Dec (m ≡ suc i) → (z : Bool) → is_zero sum ≡ z → nat_abs (total (owner o₂) l g m k) ≤ 1048576
      part₂ g a b m k c d (yes v) y x z w = absurd (omega (arith, subst (λ (n : ℕ). owner o₂ n ≡ n) v b, at-i₂))
      part₂ g a b m k c d (no v) (yes y) x true w = absurd (omega (arith, subst (λ (n : ℕ). owner o₂ n ≡ n) y b, gone w, few))
      part₂ g a b m k c d (no v) (yes y) (yes x) false w =
          subst (λ (n : ℤ). nat_abs n ≤ 1048576) (sym ((λ t. total (owner o₂) l (y t) (x t) k) ∙ own-all w k))
          (N.le_trans (sum-small (word s i 1) (q.deep i (N.le_refl (suc i))) (λ k. total (owner o) l h i k +ℤ item (iwht (levels_at l i)) k) fair k d) (lit≤ tt))
      part₂ g a b m k c d (no v) (yes y) (no x) false w =
          let u : m ≤ i = omega arith in
          subst (λ (n : ℤ). nat_abs n ≤ 1048576) (sym (ap (λ (n : ℕ). total (owner o₂) l n m k) y ∙ own w m u k)) ((p.sums h less head).part m k u d)
      part₂ g a b m k c d (no v) (no y) (yes x) z w =
          let u : g < i = omega arith in
          subst (λ (n : ℤ). nat_abs n ≤ 1048576) (sym (ap (λ (n : ℕ). total (owner o₂) l g n k) x ∙ other-all g u y k)) ((p.sums g u (sym (at-j₂ g u y) ∙ b)).part i k (N.le_refl i) d)
      part₂ g a b m k c d (no v) (no y) (no x) z w =
          let u : g < i = omega arith in
          let t : m ≤ i = omega arith in
          subst (λ (n : ℤ). nat_abs n ≤ 1048576) (sym (other g m u y t k)) ((p.sums g u (sym (at-j₂ g u y) ∙ b)).part m k t d)

      low₂ : (j : ℕ) → j < suc i → owner o₂ j < 4096 → Dec (j ≡ i) → Dec (j ≡ h) → (z : Bool) → is_zero sum ≡ z → owner o₂ j ≤ j
      low₂ j a b (yes x) y z w = subst (λ (n : ℕ). owner o₂ n ≤ n) (sym x) (omega (arith, at-i₂))
      low₂ j a b (no x) (yes y) true w = absurd (omega (arith, subst (λ (n : ℕ). owner o₂ n < 4096) y b, gone w))
      low₂ j a b (no x) (yes y) false w = subst (λ (n : ℕ). owner o₂ n ≤ n) (sym y) (N.le_of_eq (kept w))
      low₂ j a b (no x) (no y) z w = let u : j < i = omega arith in omega (arith, at-j₂ j u y, p.below j u (omega (arith, at-j₂ j u y)))

      pub joins-it : Placed s l o₂ (suc i) true
      joins-it =
          record {
            fair = fair-is true (fair-here ∙ fair);
            long = long;
            owned = λ _. record {
              long = long;
              below = λ j a b. low₂ j a b (ℕ_discrete j i) (ℕ_discrete j h) (is_zero sum) refl;
              sums = λ g a b. record { each = λ j c d. q.sixteen j c; part = λ m k c d. part₂ g a b m k c d (ℕ_discrete g i) (ℕ_discrete g h) (ℕ_discrete m (suc i)) (is_zero sum) refl };
              is = pass-is (just (groups (owner o₂) s l (suc i) i)) here ∙ sym (groups-past (owner o₂) s l (suc i) i (λ r. absurd (omega (arith, at-i₂))));
            };
          }
        where
          here : joins e G ≡ just (groups (owner o₂) s l (suc i) i)
          here =
              here-by (owner o) s l i e h same (owner o₂) (suc i)
              (λ j a b. heads j j a b a (ℕ_discrete j h))
              (λ j a b c k. other-all j a b k)
              (λ z. (kept z, own-all z))
              (λ z y. absurd (omega (arith, gone z, few)))
              i (N.le_refl i) found

    -- as the code writes them
    pub settled : (b : Bool) → b ≡ is_zero sum → sizes (word s i 1) sum ≡ true → Placed s l (cond b (set (set o i h) h 4096) (set o i h)) (suc i) true
    settled true x fair =
        joins-it fair (set (set o i h) h 4096) (simp length-set p.long)
        (get_or-set_other (set o i h) h i 4096 0 (λ z. absurd (omega arith)) ∙ get_or-set_same o i h 0 (omega (arith, p.long, few)))
        (λ j a b. get_or-set_other (set o i h) h j 4096 0 b ∙ get_or-set_other o i j h 0 (λ z. absurd (omega arith)))
        (λ z. false-true (sym (x ∙ z)))
        (λ z. get_or-set_same (set o i h) h 4096 0 (simp length-set (omega (arith, p.long, few))))
    settled false x fair =
        joins-it fair (set o i h) (length-set o i h ∙ p.long)
        (get_or-set_same o i h 0 (omega (arith, p.long, few)))
        (λ j a b. get_or-set_other o i j h 0 (λ z. absurd (omega arith)))
        (λ z. get_or-set_other o i h h 0 (λ y. absurd (omega arith)) ∙ head)
        (λ z. false-true (x ∙ z))

-- the search ends at a step that stands for one
pub head-is : (w : ℕ → ℕ) (s : List ℕ) (r c h n : ℕ) → partner w s r c n ≡ suc h → w h ≡ h
unfolding last
head-is w s r c h zero e = absurd (omega arith)
head-is w s r c h (suc n) e = go (eqb (w n) n) (touches r c (mark_at s n)) refl e (head-is w s r c h n)
  where
    go : (a b : Bool) → eqb (w n) n ≡ a → cond (a && b) (suc n) (partner w s r c n) ≡ suc h → (partner w s r c n ≡ suc h → w h ≡ h) → w h ≡ h
    go true true x e f = let u : n ≡ h = omega arith in subst (λ (j : ℕ). w j ≡ j) u (eqb-true (w n) n x)
    go true false x e f = f e
    go false b x e f = f e

pub listed-less : {s : List ℕ} {l : List ℤ} {n : ℕ} → Listed s l n → (m : ℕ) → m ≤ n → Listed s l m
listed-less q m h =
    record {
      steps = q.steps;
      levels = q.levels;
      most = N.le_trans h q.most;
      deep = λ j a. q.deep j (N.le_trans a h);
      near = λ j a. q.near j (N.le_trans a h);
      sixteen = λ j a. q.sixteen j (N.le_trans a h);
    }
