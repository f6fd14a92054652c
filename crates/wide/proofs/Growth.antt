-- Rows that are joined with their odd inputs, one after another, and what that makes of the lines. Assumes nothing.
--     doubled-none, doubled-on       no row is joined yet; one row more
--     doubled-then                   a callee joined the rows from there on
--     next-asks, next-room           what the next row asks, and what a callee that goes on asks
--     grown, grown-room              all rows are joined: the dense product of twice as many inputs, and its bound
use mathlib.Core.Path.{◌≡◌, refl, sym, ap, ◌∙◌, subst}
use mathlib.Core.Bool.{Bool, true, false}
use mathlib.Core.List.{List}
use Prim.Native.Nat.{ℕ, zero, suc, ◌+◌, ◌*◌, ◌-◌, ◌^◌, ◌≤◌, ◌<◌, zero-le}
use native.Mathlib.Nat as N
use native.Mathlib.Decide.{ℕ_discrete}
use native.Mathlib.Numerals.{add-one}
use native.Mathlib.Omega.{arith}
use borrow.Author.Tests.{ltb-true, ltb-false}
use lib.Arith.{lt_of_le-ne}
use lib.Dec.{ltb}
use lib.IntN.{ℤ, pos, nat_abs, ◌+ℤ◌, ◌-ℤ◌}
use lib.ListN.{length, get_or}
use Rattle.whole.specs.Sums.{tab, dot_z, col_at, col_from, dense_c, fold_row, scatter}
use Rattle.whole.proofs.Fill.{tab-at}
use Rattle.whole.proofs.Butterfly.{scatter-dot}
use Rattle.wide_rows.specs.Lines.{line, taps, odd_of, Room, Asks, Step, Doubled, Transformed}
use Rattle.wide_rows.proofs.Taps.{taps-length, even-taps, odd-taps}
use Rattle.wide.proofs.Folds.{folded, all_small}

-- ---- rows joined with their odd inputs
module _ {h a b : ℕ} {t w : List ℤ} where
  pub doubled-none : {out : List ℤ} → Doubled h a a b t w out out
  doubled-none = record { long = refl; sums = λ l r k p q. absurd (N.lt_irrefl a (N.lt_of_le_of_lt p q)); differences = λ l r k p q. absurd (N.lt_irrefl a (N.lt_of_le_of_lt p q)); small = λ l r k p q. absurd (N.lt_irrefl a (N.lt_of_le_of_lt p q)); others = λ l r k q n. (refl, refl) }

  -- the next row is still what it was
  still : {i : ℕ} {old cur : List ℤ} → Doubled h a i b t w old cur → (r : ℕ) → i ≤ r → r < h → (l : ℕ) → l < 16 → line cur l r ≡ line old l r
  still {i} p r q f l k = (p.others l r k f (λ x y. N.lt_irrefl r (N.lt_of_lt_of_le y q))).0

  doubled-more : {i : ℕ} {old cur new : List ℤ} → Doubled h a i b t w old cur → a ≤ i → i < h → Step h b i (h + h - 1 - i) w t cur new → Doubled h a (suc i) b t w old new
  doubled-more {i} {old} {cur} {new} p ai ih s = record {
    long = s.0.long ∙ p.long;
    sums = λ l r k x y. sum l r k x y (ℕ_discrete r i);
    differences = λ l r k x y. difference l r k x y (ℕ_discrete r i);
    small = λ l r k x y. bound l r k x y (ℕ_discrete r i);
    others = λ l r k f n. (
      s.0.others l r k (λ e. n (subst (λ (j : ℕ). a ≤ j) (sym e) ai) (subst (λ (j : ℕ). r < suc j) e (N.le_refl (suc r)))) (λ e. omega arith) ∙ (p.others l r k f (λ x y. n x (omega arith))).0,
      s.0.others l (h + h - 1 - r) k (λ e. omega arith) (λ e. n (subst (λ (j : ℕ). a ≤ j) (back r f e) ai) (subst (λ (j : ℕ). r < suc j) (sym (back r f e)) (N.le_refl (suc r)))) ∙ (p.others l r k f (λ x y. n x (omega arith))).1,
    );
  }
    where
      back : (r : ℕ) → r < h → h + h - 1 - r ≡ h + h - 1 - i → i ≡ r
      back r f e = omega arith

      now : (l : ℕ) → l < 16 → line cur l i ≡ line old l i
      now l k = still p i (N.le_refl i) ih l k

      sum : (l r : ℕ) → l < 16 → a ≤ r → r < suc i → Dec (r ≡ i) → line new l r ≡ line old l r +ℤ odd_of h b t w l r
      sum l r k x y (yes e) = subst (λ (j : ℕ). line new l j ≡ line old l j +ℤ odd_of h b t w l j) (sym e) (s.0.low l k ∙ ap (λ z. z +ℤ odd_of h b t w l i) (now l k))
      sum l r k x y (no e) = s.0.others l r k e (λ d. omega arith) ∙ p.sums l r k x (lt_of_le-ne (omega arith) e)

      difference : (l r : ℕ) → l < 16 → a ≤ r → r < suc i → Dec (r ≡ i) → line new l (h + h - 1 - r) ≡ line old l r -ℤ odd_of h b t w l r
      difference l r k x y (yes e) = subst (λ (j : ℕ). line new l (h + h - 1 - j) ≡ line old l j -ℤ odd_of h b t w l j) (sym e) (s.0.high l k ∙ ap (λ z. z -ℤ odd_of h b t w l i) (now l k))
      difference l r k x y (no e) = s.0.others l (h + h - 1 - r) k (λ d. omega arith) (λ d. e (sym (back r (omega arith) d))) ∙ p.differences l r k x (lt_of_le-ne (omega arith) e)

      bound : (l r : ℕ) → l < 16 → a ≤ r → r < suc i → Dec (r ≡ i) → nat_abs (odd_of h b t w l r) ≤ 2 ^ 26
      bound l r k x y (yes e) = subst (λ (j : ℕ). nat_abs (odd_of h b t w l j) ≤ 2 ^ 26) (sym e) (s.1 l k)
      bound l r k x y (no e) = p.small l r k x (lt_of_le-ne (omega arith) e)

  -- the same, counted as a loop counts
  pub doubled-on : {i : ℕ} {old cur new : List ℤ} → Doubled h a i b t w old cur → a ≤ i → i < h → Step h b i (h + h - 1 - i) w t cur new → Doubled h a (i + 1) b t w old new
  doubled-on {i} {old = old} {new = new} p ai ih s = subst (λ (n : ℕ). Doubled h a n b t w old new) (sym (add-one i)) (doubled-more p ai ih s)

  pub next-asks : {i v k : ℕ} {old cur : List ℤ} → Doubled h a i b t w old cur → Room v a k old → v ≤ 3 → a ≤ i → i < k → i < h → (h + h) * 16 ≤ length old → b + 15 + (h - 1) * (b + b) < length w → h * h ≤ length t
      → Asks h b i (h + h - 1 - i) cur w t
  next-asks {i} {v} {old = old} {cur = cur} p m vs ai ik ih fit inputs table =
      record {
        apart = omega arith;
        inside = omega (arith, p.long);
        inputs = inputs;
        weights = omega (arith, N.mul-le-mul_right h ih, N.suc-mul i h);
        small = λ l k. subst (λ (z : ℤ). nat_abs z ≤ 2 ^ 28) (sym (still p i (N.le_refl i) ih l k)) (omega (arith, m l i k ai ik, N.mul-le-mul_right (2 ^ 26) vs));
      }

-- a callee went on
module _ {h b : ℕ} {t w old mid new : List ℤ} {i k : ℕ} (p : Doubled h 0 i b t w old mid) where
  pub doubled-then : i ≤ k → k ≤ h → Doubled h i k b t w mid new → Doubled h 0 k b t w old new
  doubled-then ik kh q = record {
    long = q.long ∙ p.long;
    sums = λ l r n x y. sum l r n y (ltb r i) refl;
    differences = λ l r n x y. difference l r n y (ltb r i) refl;
    small = λ l r n x y. bound l r n y (ltb r i) refl;
    others = λ l r n f e. (
      (q.others l r n f (λ x y. e zero-le y)).0 ∙ (p.others l r n f (λ x y. e zero-le (omega arith))).0,
      (q.others l r n f (λ x y. e zero-le y)).1 ∙ (p.others l r n f (λ x y. e zero-le (omega arith))).1,
    );
  }
    where
      sum : (l r : ℕ) → l < 16 → r < k → (c : Bool) → ltb r i ≡ c → line new l r ≡ line old l r +ℤ odd_of h b t w l r
      sum l r n y true e = (q.others l r n (omega arith) (λ x z. N.lt_irrefl r (N.lt_of_lt_of_le (ltb-true r i e) x))).0 ∙ p.sums l r n zero-le (ltb-true r i e)
      sum l r n y false e = q.sums l r n (ltb-false r i e) y ∙ ap (λ z. z +ℤ odd_of h b t w l r) (still p r (ltb-false r i e) (omega arith) l n)

      difference : (l r : ℕ) → l < 16 → r < k → (c : Bool) → ltb r i ≡ c → line new l (h + h - 1 - r) ≡ line old l r -ℤ odd_of h b t w l r
      difference l r n y true e = (q.others l r n (omega arith) (λ x z. N.lt_irrefl r (N.lt_of_lt_of_le (ltb-true r i e) x))).1 ∙ p.differences l r n zero-le (ltb-true r i e)
      difference l r n y false e = q.differences l r n (ltb-false r i e) y ∙ ap (λ z. z -ℤ odd_of h b t w l r) (still p r (ltb-false r i e) (omega arith) l n)

      bound : (l r : ℕ) → l < 16 → r < k → (c : Bool) → ltb r i ≡ c → nat_abs (odd_of h b t w l r) ≤ 2 ^ 26
      bound l r n y true e = p.small l r n zero-le (ltb-true r i e)
      bound l r n y false e = q.small l r n (ltb-false r i e) y

pub next-room : (v : ℕ) {h b : ℕ} {t w old mid : List ℤ} {i k : ℕ} → Doubled h 0 i b t w old mid → Room v 0 h old → k ≤ h → Room v i k mid
next-room v p m kh l r n x y = subst (λ (z : ℤ). nat_abs z ≤ 2 ^ 24 + v * 2 ^ 26) (sym (still p r x (omega arith) l n)) (m l r n zero-le (omega arith))

-- ---- all rows are joined
col-length : (k n : ℕ) (t : List ℤ) (m : ℕ) → length (col_from k n t m) ≡ k
col-length zero n t m = refl
col-length (suc k) n t m = ap suc (col-length k n _ m)

abbrev pub row_e : ℕ → List ℤ → ℕ → List ℤ
row_e h t m = scatter (col_at h t m) (λ i. i + i)

abbrev pub row_o : ℕ → List ℤ → ℕ → List ℤ
row_o h t m = scatter (taps h (m * h) 1 t) (λ i. i + i + 1)

module _ (h d : ℕ) (te to tn w old new : List ℤ) (p : Transformed h te (d + d) w old) (q : Doubled h 0 h d to w old new) where
  pub grown : ((xs : List ℤ) → tab (h + h) (λ k. dot_z (fold_row h (row_e h te) (row_o h to) k) xs) ≡ dense_c (h + h) tn xs) → Transformed (h + h) tn d w new
  grown same l k =
      folded h (row_e h te) (row_o h to) (taps (h + h) l d w) (line new l)
      (λ r y. q.sums l r k zero-le y ∙ ap (λ z. z +ℤ odd_of h d to w l r) (low r y) ∙ ap (λ z. dot_z (row_e h te r) (taps (h + h) l d w) +ℤ z) (odd r))
      (λ r y. q.differences l r k zero-le y ∙ ap (λ z. z -ℤ odd_of h d to w l r) (low r y) ∙ ap (λ z. dot_z (row_e h te r) (taps (h + h) l d w) -ℤ z) (odd r))
      ∙ same (taps (h + h) l d w)
    where
      low : (r : ℕ) → r < h → line old l r ≡ dot_z (row_e h te r) (taps (h + h) l d w)
      low r y =
          sym (tab-at (pos 0) h (line old l) r y) ∙ ap (λ z. get_or z r (pos 0)) (p l k) ∙ tab-at (pos 0) h (λ m. dot_z (col_at h te m) (taps h l (d + d) w)) r y
          ∙ ap (dot_z (col_at h te r)) (even-taps h (h + h) (N.le_refl (h + h)) l d w) ∙ scatter-dot h (col_at h te r) (λ i. i + i) (taps (h + h) l d w) (N.le_of_eq (col-length h h te r))

      odd : (r : ℕ) → odd_of h d to w l r ≡ dot_z (row_o h to r) (taps (h + h) l d w)
      odd r =
          ap (dot_z (taps h (r * h) 1 to)) (odd-taps h (h + h) (N.le_refl (h + h)) l d w (d + l) (N.add_comm d l))
          ∙ scatter-dot h (taps h (r * h) 1 to) (λ i. i + i + 1) (taps (h + h) l d w) (N.le_of_eq (taps-length h (r * h) 1 to))

pub grown-room : (v : ℕ) {h d : ℕ} {to w old new : List ℤ} → Doubled h 0 h d to w old new → Room v 0 h old → Room (suc v) 0 (h + h) new
grown-room v {h} {d} {to} {w} {old} {new} q m l r k x y =
    all_small h (2 ^ 24 + suc v * 2 ^ 26) (line new l) (line old l) (odd_of h d to w l)
    (λ j z. omega (arith, m l j k zero-le z, q.small l j k zero-le z, N.suc-mul v (2 ^ 26))) (λ j z. q.sums l j k zero-le z) (λ j z. q.differences l j k zero-le z) r y
