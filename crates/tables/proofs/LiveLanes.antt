-- Live inputs and the head of a table in lanes, for any record and any count of lanes: `at r k` is number k of the record r. Assumes nothing.
--     first-put                                   a record stored at the front
--     blank-cols                                  the numbers of a list of records of zeros
--     Laying, lay-start, -more, -done             a loop that stores the first live records in a list of zeros
--     Resting, rest-start, -more, -done           a loop that stores zeros from record live on
--     Keeping, keep-start, -more, -done           a loop that puts the record of zeros in the place of every record from live on
--     Folding, fold_start, -more, -done           a loop that writes a butterfly of h records from both ends inward
--     Growing, grow-start, -more, -now            the same in place: it joins an odd half to an even one
--     four_are                                    four records that hold the first four inputs
use mathlib.Core.Path.{◌≡◌, refl, sym, ap, ◌∙◌, subst}
use mathlib.Core.Logic.{◌⊎◌, inl, inr}
use mathlib.Core.Bool.{Bool, true, false}
use mathlib.Core.List.{List, [], ◌∷◌}
use Prim.Native.Nat.{ℕ, zero, suc, ◌+◌, ◌≤◌, ◌<◌, zero-le}
use native.Mathlib.Nat as N
use native.Mathlib.Decide.{ℕ_discrete}
use native.Mathlib.Omega.{arith}
use borrow.Author.Tests.{ltb-true, ltb-false}
use lib.Dec.{ltb}
use lib.IntN.{ℤ, pos}
use lib.ListN.{length, get_or, set, take, length-set, length-take}
use lib.Seq.{get_or-set_same, get_or-set_other, get_or-take}
use Rattle.whole.specs.Sums.{tab}
use Rattle.whole.specs.Lanes.{col}
use Rattle.whole.proofs.Inward.{mirror}
use Rattle.whole.proofs.Cells.{under}
use Rattle.whole.proofs.Fill.{filled-all}
use Rattle.whole.proofs.Lanes.{col-length, col-set}
use Rattle.tables.specs.Dense.{first_of}
use Rattle.tables.proofs.First.{past as past-end, first-is, first-in, first_out, first-length, front_length, front-is}
use Rattle.tables.proofs.Clearing.{Clearing, clear-start, clear-more}

module _ {R : Type 0} (at : R → ℕ → ℤ) where
  -- ---- stores, and a list of one record
  both-set : (k : ℕ) (rs : List R) (i j : ℕ) (u v : R) → col at k (set (set rs i u) j v) ≡ set (set (col at k rs) i (at u k)) j (at v k)
  both-set k rs i j u v = col-set at k (set rs i u) j v ∙ ap (λ l. set l j (at v k)) (col-set at k rs i u)

  -- a store leaves every other number
  other-set : (k : ℕ) (rs : List R) (i j : ℕ) (r : R) → (j ≡ i → ⊥) → get_or (col at k (set rs i r)) j (pos 0) ≡ get_or (col at k rs) j (pos 0)
  other-set k rs i j r w = ap (λ z. get_or z j (pos 0)) (col-set at k rs i r) ∙ get_or-set_other (col at k rs) i j (at r k) (pos 0) w

  pub first-put : (k : ℕ) (rs : List R) (r : R) → 1 ≤ length rs → take 1 (col at k (set rs 0 r)) ≡ at r k ∷ []
  first-put k [] r h = absurd (N.not-suc-le-zero h)
  first-put k (x ∷ rs) r h = refl

  pub blank-cols : (d : R) → ((k : ℕ) → at d k ≡ pos 0) → (n k i : ℕ) → get_or (col at k (tab n (λ _. d))) i (pos 0) ≡ pos 0
  blank-cols d none zero k i = refl
  blank-cols d none (suc n) k zero = none k
  blank-cols d none (suc n) k (suc i) = blank-cols d none n k i

  -- ---- the first live records of c, stored in a list of zeros
  pub record Laying (live : ℕ) (c old rs : List R) (i : ℕ) : Type 0 where
    pub most : i ≤ live
    pub long : length rs ≡ length old
    pub low : (k j : ℕ) → j < i → get_or (col at k rs) j (pos 0) ≡ get_or (col at k c) j (pos 0)
    pub rest : (k j : ℕ) → i ≤ j → get_or (col at k rs) j (pos 0) ≡ pos 0

  module _ {live : ℕ} {c old : List R} where
    pub lay-start : ((k i : ℕ) → get_or (col at k old) i (pos 0) ≡ pos 0) → Laying live c old old 0
    lay-start e = record { most = zero-le; long = refl; low = λ k j q. absurd (N.not-suc-le-zero q); rest = λ k j q. e k j }

    pub lay-more : {rs : List R} {i : ℕ} {r : R} → Laying live c old rs i → i < live → i < length rs → ((k : ℕ) → at r k ≡ get_or (col at k c) i (pos 0)) → Laying live c old (set rs i r) (i + 1)
    lay-more {rs} {i} {r} p q l e = record {
      most = omega arith;
      long = length-set rs i r ∙ p.long;
      low = λ k j s. near k j s (ℕ_discrete j i);
      rest = λ k j s. other-set k rs i j r (λ w. absurd (omega arith)) ∙ p.rest k j (omega arith);
    }
      where
        before : {j : ℕ} → j < i + 1 → (j ≡ i → ⊥) → j < i
        before s w = omega arith

        near : (k j : ℕ) → j < i + 1 → Dec (j ≡ i) → get_or (col at k (set rs i r)) j (pos 0) ≡ get_or (col at k c) j (pos 0)
        near k j s (yes w) =
            ap (λ z. get_or z j (pos 0)) (col-set at k rs i r) ∙ ap (λ z. get_or (set (col at k rs) i (at r k)) z (pos 0)) w
            ∙ get_or-set_same (col at k rs) i (at r k) (pos 0) (subst (λ (n : ℕ). i < n) (sym (col-length at k rs)) l) ∙ e k ∙ ap (λ z. get_or (col at k c) z (pos 0)) (sym w)
        near k j s (no w) = other-set k rs i j r w ∙ p.low k j (before s w)

    pub lay_done : {rs : List R} {i : ℕ} → Laying live c old rs i → live ≤ i → live ≤ length old → length old ≤ length c → (k : ℕ) → col at k rs ≡ first_of live (take (length old) (col at k c))
    lay_done {rs} {i} p q f l k =
        first-is live (take (length old) (col at k c)) (col at k rs) (col-length at k rs ∙ p.long ∙ sym count)
        (λ j s. p.low k j (N.lt_of_lt_of_le s q) ∙ sym (get_or-take (length old) (col at k c) j (pos 0) (N.lt_of_lt_of_le s f)))
        (λ j s r. p.rest k j (N.le_trans p.most s))
      where
        count : length (take (length old) (col at k c)) ≡ length old
        count = front_length (length old) (col at k c) (subst (λ (n : ℕ). length old ≤ n) (sym (col-length at k c)) l)

  -- ---- of the first n records those after the first live become zeros; the others are zeros already
  pub record Resting (live n : ℕ) (old rs : List R) (i : ℕ) : Type 0 where
    pub long : length rs ≡ length old
    pub gone : (k : ℕ) → Clearing live (col at k old) (col at k rs) i
    pub past : (k j : ℕ) → n ≤ j → get_or (col at k rs) j (pos 0) ≡ pos 0

  module _ {live n : ℕ} {old : List R} where
    pub rest-start : ((k j : ℕ) → n ≤ j → get_or (col at k old) j (pos 0) ≡ pos 0) → Resting live n old old live
    rest-start e = record { long = refl; gone = λ k. clear-start; past = e }

    pub rest_more : {rs : List R} {i : ℕ} {r : R} → Resting live n old rs i → i < n → i < length rs → ((k : ℕ) → at r k ≡ pos 0) → Resting live n old (set rs i r) (i + 1)
    rest_more {rs} {i} {r} p q l e = record {
      long = length-set rs i r ∙ p.long;
      gone = λ k. subst (λ (z : List ℤ). Clearing live (col at k old) z (i + 1)) (sym (col-set at k rs i r ∙ ap (set (col at k rs) i) (e k))) (clear-more (p.gone k) (subst (λ (m : ℕ). i < m) (sym (col-length at k rs)) l));
      past = λ k j s. other-set k rs i j r (λ w. absurd (omega arith)) ∙ p.past k j s;
    }

    pub rest-done : {rs : List R} {i : ℕ} → Resting live n old rs i → n ≤ i → (k : ℕ) → col at k rs ≡ first_of live (col at k old)
    rest-done {rs} {i} p q k =
        first-is live (col at k old) (col at k rs) (col-length at k rs ∙ p.long ∙ sym (col-length at k old)) (p.gone k).low (λ j l r. go j l (under n j))
      where
        go : (j : ℕ) → live ≤ j → ((n ≤ j) ⊎ (j < n)) → get_or (col at k rs) j (pos 0) ≡ pos 0
        go j l (inl s) = p.past k j s
        go j l (inr s) = (p.gone k).gone j l (N.lt_of_lt_of_le s q)

  -- ---- a butterfly, from both ends inward
  pub record Folding (h : ℕ) (f : ℕ → ℕ → ℤ) (rs : List R) (i : ℕ) : Type 0 where
    pub most : i ≤ h
    pub long : h + h ≤ length rs
    pub low : (k j : ℕ) → j < i → get_or (col at k rs) j (pos 0) ≡ f k j
    pub high : (k j : ℕ) → j < i → get_or (col at k rs) (mirror h j) (pos 0) ≡ f k (mirror h j)

  pub fold_start : {h : ℕ} {f : ℕ → ℕ → ℤ} {rs : List R} → h + h ≤ length rs → Folding h f rs 0
  fold_start e = record { most = zero-le; long = e; low = λ k j q. absurd (N.not-suc-le-zero q); high = λ k j q. absurd (N.not-suc-le-zero q) }

  pub fold_more : {h : ℕ} {f : ℕ → ℕ → ℤ} {rs : List R} {i : ℕ} {u v : R} → Folding h f rs i → i < h → ((k : ℕ) → at u k ≡ f k i) → ((k : ℕ) → at v k ≡ f k (mirror h i))
      → Folding h f (set (set rs i u) (mirror h i) v) (i + 1)
  fold_more {h} {f} {rs} {i} {u} {v} p q e g = record {
    most = omega arith;
    long = subst (λ (n : ℕ). h + h ≤ n) (sym (length-set (set rs i u) (mirror h i) v ∙ length-set rs i u)) p.long;
    low = λ k j r. ap (λ l. get_or l j (pos 0)) (both-set k rs i (mirror h i) u v) ∙ near k j r (ℕ_discrete j i);
    high = λ k j r. ap (λ l. get_or l (mirror h j) (pos 0)) (both-set k rs i (mirror h i) u v) ∙ far k j r (ℕ_discrete j i);
  }
    where
      room : (k : ℕ) → h + h ≤ length (col at k rs)
      room k = subst (λ (n : ℕ). h + h ≤ n) (sym (col-length at k rs)) p.long

      below : {j : ℕ} → j < i + 1 → (j ≡ i → ⊥) → j < i
      below r w = omega arith

      near : (k j : ℕ) → j < i + 1 → Dec (j ≡ i) → get_or (set (set (col at k rs) i (at u k)) (mirror h i) (at v k)) j (pos 0) ≡ f k j
      near k j r (yes w) =
          get_or-set_other (set (col at k rs) i (at u k)) (mirror h i) j (at v k) (pos 0) (λ t. absurd (omega arith))
          ∙ ap (λ z. get_or (set (col at k rs) i (at u k)) z (pos 0)) w ∙ get_or-set_same (col at k rs) i (at u k) (pos 0) (omega (arith, room k)) ∙ e k ∙ ap (f k) (sym w)
      near k j r (no w) =
          get_or-set_other (set (col at k rs) i (at u k)) (mirror h i) j (at v k) (pos 0) (λ t. absurd (omega arith))
          ∙ get_or-set_other (col at k rs) i j (at u k) (pos 0) w ∙ p.low k j (below r w)

      far : (k j : ℕ) → j < i + 1 → Dec (j ≡ i) → get_or (set (set (col at k rs) i (at u k)) (mirror h i) (at v k)) (mirror h j) (pos 0) ≡ f k (mirror h j)
      far k j r (yes w) =
          ap (λ z. get_or (set (set (col at k rs) i (at u k)) (mirror h i) (at v k)) (mirror h z) (pos 0)) w
          ∙ get_or-set_same (set (col at k rs) i (at u k)) (mirror h i) (at v k) (pos 0) (omega (arith, length-set (col at k rs) i (at u k), room k)) ∙ g k ∙ ap (λ z. f k (mirror h z)) (sym w)
      far k j r (no w) =
          get_or-set_other (set (col at k rs) i (at u k)) (mirror h i) (mirror h j) (at v k) (pos 0) (λ s. absurd (w (omega (arith, p.most))))
          ∙ get_or-set_other (col at k rs) i (mirror h j) (at u k) (pos 0) (λ s. absurd (omega (arith, p.most))) ∙ p.high k j (below r w)

  pub fold_done : {h : ℕ} {f : ℕ → ℕ → ℤ} {rs : List R} {i : ℕ} → Folding h f rs i → h ≤ i → (k : ℕ) → take (h + h) (col at k rs) ≡ tab (h + h) (f k)
  fold_done {h} {f} {rs} {i} p q k =
      filled-all (pos 0) (take (h + h) (col at k rs)) (h + h) (f k) (front_length (h + h) (col at k rs) (subst (λ (n : ℕ). h + h ≤ n) (sym (col-length at k rs)) p.long))
      (λ j r. get_or-take (h + h) (col at k rs) j (pos 0) r ∙ half j r (ltb j h) refl)
    where
      turned : {j : ℕ} → j < h + h → mirror h (mirror h j) ≡ j
      turned r = omega arith

      half : (j : ℕ) → j < h + h → (b : Bool) → ltb j h ≡ b → get_or (col at k rs) j (pos 0) ≡ f k j
      half j r true t = p.low k j (N.lt_of_lt_of_le (ltb-true j h t) q)
      half j r false t = subst (λ (z : ℕ). get_or (col at k rs) z (pos 0) ≡ f k z) (turned r) (p.high k (mirror h j) (omega (arith, ltb-false j h t)))

  -- ---- a join in place: the rest of the first half is still the even half
  pub record Growing (h : ℕ) (f : ℕ → ℕ → ℤ) (old rs : List R) (i : ℕ) : Type 0 where
    pub fold : Folding h f rs i
    pub long : length rs ≡ length old
    pub rest : (k j : ℕ) → i ≤ j → j < h → get_or (col at k rs) j (pos 0) ≡ get_or (col at k old) j (pos 0)

  module _ {h : ℕ} {f : ℕ → ℕ → ℤ} {old : List R} where
    pub grow-start : h + h ≤ length old → Growing h f old old 0
    grow-start e = record { fold = fold_start e; long = refl; rest = λ k j p q. refl }

    pub grow-more : {rs : List R} {i : ℕ} {u v : R} → Growing h f old rs i → i < h → ((k : ℕ) → at u k ≡ f k i) → ((k : ℕ) → at v k ≡ f k (mirror h i))
        → Growing h f old (set (set rs i u) (mirror h i) v) (i + 1)
    grow-more {rs} {i} {u} {v} p q e g = record {
      fold = fold_more {f = f} p.fold q e g;
      long = length-set (set rs i u) (mirror h i) v ∙ length-set rs i u ∙ p.long;
      rest = λ k j r s. other-set k (set rs i u) (mirror h i) j v (λ w. absurd (omega arith)) ∙ other-set k rs i j u (λ w. absurd (omega arith)) ∙ p.rest k j (omega arith) s;
    }

    -- the record that comes next is still the even half's
    pub grow-now : {rs : List R} {i : ℕ} → Growing h f old rs i → i < h → (k : ℕ) → get_or (col at k rs) i (pos 0) ≡ get_or (take h (col at k old)) i (pos 0)
    grow-now {rs} {i} p q k = p.rest k i (N.le_refl i) q ∙ sym (get_or-take h (col at k old) i (pos 0) q)

  -- ---- four records
  pub four_are : (n live k : ℕ) (ls : List R) (a b c d : R) → 4 ≤ n → n ≤ length ls
      → at a k ≡ get_or (first_of live (col at k ls)) 0 (pos 0) → at b k ≡ get_or (first_of live (col at k ls)) 1 (pos 0) → at c k ≡ get_or (first_of live (col at k ls)) 2 (pos 0) → at d k ≡ get_or (first_of live (col at k ls)) 3 (pos 0)
      → at a k ∷ at b k ∷ at c k ∷ at d k ∷ [] ≡ take 4 (first_of live (take n (col at k ls)))
  four_are n live k ls a b c d f l p q r s = (λ i. (p ∙ same 0 (omega arith)) i ∷ (q ∙ same 1 (omega arith)) i ∷ (r ∙ same 2 (omega arith)) i ∷ (s ∙ same 3 (omega arith)) i ∷ []) ∙ sym front
    where
      same : (i : ℕ) → i < n → get_or (first_of live (col at k ls)) i (pos 0) ≡ get_or (first_of live (take n (col at k ls))) i (pos 0)
      same i z = go (under live i)
        where
          go : ((live ≤ i) ⊎ (i < live)) → get_or (first_of live (col at k ls)) i (pos 0) ≡ get_or (first_of live (take n (col at k ls))) i (pos 0)
          go (inl w) = first_out live (col at k ls) i w ∙ sym (first_out live (take n (col at k ls)) i w)
          go (inr w) = first-in live (col at k ls) i w ∙ sym (get_or-take n (col at k ls) i (pos 0) z) ∙ sym (first-in live (take n (col at k ls)) i w)

      long : length (first_of live (take n (col at k ls))) ≡ n
      long = first-length live (take n (col at k ls)) ∙ front_length n (col at k ls) (subst (λ (v : ℕ). n ≤ v) (sym (col-length at k ls)) l)

      front : take 4 (first_of live (take n (col at k ls))) ≡ tab 4 (λ i. get_or (first_of live (take n (col at k ls))) i (pos 0))
      front = front-is 4 (first_of live (take n (col at k ls))) (subst (λ (v : ℕ). 4 ≤ v) (sym long) f)

module _ {R : Type 0} (at : R → ℕ → ℤ) where
  -- ---- from live on, zeros
  pub record Keeping (live : ℕ) (old rs : List R) (i : ℕ) : Type 0 where
    pub long : length rs ≡ length old
    pub gone : (k : ℕ) → Clearing live (col at k old) (col at k rs) i

  pub keep-start : {live : ℕ} {old : List R} → Keeping live old old live
  keep-start = record { long = refl; gone = λ k. clear-start }

  pub keep-more : {live : ℕ} {old rs : List R} {i : ℕ} {z : R} → Keeping live old rs i → i < length rs → ((k : ℕ) → at z k ≡ pos 0) → Keeping live old (set rs i z) (i + 1)
  keep-more {live} {old} {rs} {i} {z} p h e = record {
    long = length-set rs i z ∙ p.long;
    gone = λ k. subst (λ (l : List ℤ). Clearing live (col at k old) l (i + 1)) (sym (col-set at k rs i z ∙ ap (set (col at k rs) i) (e k))) (clear-more (p.gone k) (subst (λ (n : ℕ). i < n) (sym (col-length at k rs)) h));
  }

  pub keep-done : {live n : ℕ} {old rs : List R} {i : ℕ} → Keeping live old rs i → n ≤ i → n ≤ length old → (k : ℕ) → take n (col at k rs) ≡ first_of live (take n (col at k old))
  keep-done {live} {n} {old} {rs} {i} p h l k =
      first-is live (take n (col at k old)) (take n (col at k rs)) (count rs (subst (λ (m : ℕ). n ≤ m) (sym p.long) l) ∙ sym (count old l))
      (λ j q. low j q (under n j))
      (λ j q r. let z = subst (λ (m : ℕ). j < m) (count old l) r in get_or-take n (col at k rs) j (pos 0) z ∙ (p.gone k).gone j q (N.lt_of_lt_of_le z h))
    where
      count : (ls : List R) → n ≤ length ls → length (take n (col at k ls)) ≡ n
      count ls m = length-take n (col at k ls) ∙ N.min-eq_left (subst (λ (v : ℕ). n ≤ v) (sym (col-length at k ls)) m)

      low : (j : ℕ) → j < live → ((n ≤ j) ⊎ (j < n)) → get_or (take n (col at k rs)) j (pos 0) ≡ get_or (take n (col at k old)) j (pos 0)
      low j q (inr z) = get_or-take n (col at k rs) j (pos 0) z ∙ (p.gone k).low j q ∙ sym (get_or-take n (col at k old) j (pos 0) z)
      low j q (inl z) =
          past-end (take n (col at k rs)) j (subst (λ (m : ℕ). m ≤ j) (sym (count rs (subst (λ (m : ℕ). n ≤ m) (sym p.long) l))) z)
          ∙ sym (past-end (take n (col at k old)) j (subst (λ (m : ℕ). m ≤ j) (sym (count old l)) z))
