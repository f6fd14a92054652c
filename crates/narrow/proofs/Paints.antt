-- A block of a list that a loop writes row by row. Lists of anything; d is what is read past an end. Assumes nothing.
--     paint-start, paint-now, paint-more     the loop: no row yet, the row that comes next is as it was, one row more
--     paint-in, paint-out                    rows of sixteen places: those that were written, and the others
--     paint-same                             equal rules, equal blocks
--     paint-beside, beside-now               two blocks of equally many rows side by side are one; what the second holds before it is written
--     paint-done                             the whole list afterwards, by its indices
use mathlib.Core.Path.{◌≡◌, refl, sym, ap, ◌∙◌, subst}
use mathlib.Core.Logic.{◌⊎◌, inl, inr}
use mathlib.Core.Bool.{cond}
use mathlib.Core.List.{List}
use Prim.Native.Nat.{ℕ, ◌+◌, ◌*◌, ◌-◌, ◌/◌, ◌%◌, ◌≤◌, ◌<◌}
use native.Mathlib.Nat as N
use native.Mathlib.Omega.{arith}
use native.Mathlib.Decide.{ℕ_discrete}
use borrow.Rule.Slice.PartMut.{put_mid, same_len_mid}
use lib.Arith.{lt_of_le-ne}
use lib.ListN.{length, get_or, take, drop}
use Rattle.whole.specs.Sums.{tab}
use Rattle.whole.specs.Grid.{in_block}
use Rattle.whole.proofs.Cells.{under, row_below, cell-inj}
use Rattle.whole.proofs.Lent.{part_count, mid-in, mid-below, mid-above, Rewriting, rewrite-done}
use Rattle.narrow.specs.Painted.{Painted}

module _ {A : Type 0} {d : A} {from stride w : ℕ} {f : ℕ → ℕ → A} {old : List A} where
  pub paint-start : Painted d from stride w 0 f old old
  paint-start = record { long = refl; holds = λ r x h. absurd (N.not-suc-le-zero h); others = λ i h. refl }

  -- row y is still what it was
  pub paint-now : {t : List A} {y : ℕ} → Painted d from stride w y f old t → w ≤ stride → (x : ℕ) → x < w → get_or t (from + y * stride + x) d ≡ get_or old (from + y * stride + x) d
  paint-now {t} {y} p fit x h =
      p.others (from + y * stride + x) (λ r z a b e. N.lt_irrefl r (subst (λ (q : ℕ). r < q) (cell-inj y r (N.lt_of_lt_of_le h fit) (N.lt_of_lt_of_le b fit) (less (y * stride) x (r * stride) z e)).0 a))
    where
      less : (a x b z : ℕ) → from + a + x ≡ from + b + z → a + x ≡ b + z
      less a x b z e = omega arith

  pub paint-more : {t : List A} {y : ℕ} → Painted d from stride w y f old t → w ≤ stride → from + y * stride + w ≤ length old → (k : ℕ) → k ≡ w → (ys : List A) → length ys ≡ length (take k (drop (from + y * stride) t)) → ((x : ℕ) → x < w → get_or ys x d ≡ f y x) → Painted d from stride w (y + 1) f old (put_mid (from + y * stride) k t ys)
  paint-more {t} {y} p fit room k wide ys e is = record {
    long = same_len_mid (from + y * stride) k t ys e ∙ p.long;
    holds = λ r x a b. here r x b (ℕ_discrete r y) a;
    others = λ i h. away i h (under (from + y * stride) i);
  }
    where
      inside : (from + y * stride) + k ≤ length t
      inside = omega (arith, p.long)

      count : length ys ≡ k
      count = e ∙ part_count t (from + y * stride) k inside

      here : (r x : ℕ) → x < w → Dec (r ≡ y) → r < y + 1 → get_or (put_mid (from + y * stride) k t ys) (from + r * stride + x) d ≡ f r x
      here r x b (yes u) a = subst (λ (q : ℕ). get_or (put_mid (from + y * stride) k t ys) (from + q * stride + x) d ≡ f q x) (sym u) (mid-in d (from + y * stride) k t ys inside count x (omega arith) ∙ is x b)
      here r x b (no u) a =
          let c = lt_of_le-ne {i = r} {k = y} (omega arith) u in
          mid-below d (from + y * stride) k t ys inside count (from + r * stride + x) (omega (arith, row_below stride c)) ∙ p.holds r x c b

      kept : (i : ℕ) → ((r x : ℕ) → r < y + 1 → x < w → i ≡ from + r * stride + x → ⊥) → get_or t i d ≡ get_or old i d
      kept i h = p.others i (λ r x a b q. h r x (omega arith) b q)

      away : (i : ℕ) → ((r x : ℕ) → r < y + 1 → x < w → i ≡ from + r * stride + x → ⊥) → (((from + y * stride) ≤ i) ⊎ (i < (from + y * stride))) → get_or (put_mid (from + y * stride) k t ys) i d ≡ get_or old i d
      away i h (inr c) = mid-below d (from + y * stride) k t ys inside count i c ∙ kept i h
      away i h (inl c) = past_row (under ((from + y * stride) + w) i)
        where
          past_row : (((from + y * stride) + w ≤ i) ⊎ (i < (from + y * stride) + w)) → get_or (put_mid (from + y * stride) k t ys) i d ≡ get_or old i d
          past_row (inl g) = mid-above d (from + y * stride) k t ys inside count i (omega arith) ∙ kept i h
          past_row (inr g) = absurd (h y (i - (from + y * stride)) (omega arith) (omega arith) (omega arith))

  -- the whole list, where the block is at its start
  pub paint-done : {new : List A} (n : ℕ) → Painted d from stride w n f old new → from ≡ 0 → w ≤ stride → 0 < w → new ≡ tab (length old) (λ i. cond (in_block stride w n i) (f (i / stride) (i % stride)) (get_or old i d))
  paint-done {new} n p z fit some = rewrite-done {f = f} n again fit some
    where
      flat : (a x : ℕ) → from + a + x ≡ a + x
      flat a x = omega arith

      again : Rewriting d stride w f old new n
      again = record {
        long = p.long;
        holds = λ r x a b. ap (λ i. get_or new i d) (sym (flat (r * stride) x)) ∙ p.holds r x a b;
        others = λ i h. p.others i (λ r x a b e. h r x a b (e ∙ flat (r * stride) x));
      }

-- ---- rows of sixteen places: row r, place m is place r * 16 + m of the list
module _ {A : Type 0} {d : A} (y : ℕ) {w n : ℕ} {f : ℕ → ℕ → A} {old new : List A} (p : Painted d (y * 16) 16 w n f old new) where
  pub paint-in : (l m : ℕ) → l < n → m < w → get_or new ((y + l) * 16 + m) d ≡ f l m
  paint-in l m a b = ap (λ i. get_or new i d) (place l) ∙ p.holds l m a b
    where
      place : (l : ℕ) → (y + l) * 16 + m ≡ y * 16 + l * 16 + m
      place l = omega arith

  pub paint-out : (r m : ℕ) → w ≤ 16 → m < 16 → ((r < y) ⊎ (y + n ≤ r)) → get_or new (r * 16 + m) d ≡ get_or old (r * 16 + m) d
  paint-out r m fit h away = p.others (r * 16 + m) (λ l x a b e. go away l x a b e)
    where
      go : ((r < y) ⊎ (y + n ≤ r)) → (l x : ℕ) → l < n → x < w → r * 16 + m ≡ y * 16 + l * 16 + x → ⊥
      go (inl q) l x a b e = omega arith
      go (inr q) l x a b e = omega arith

-- ---- equal rules, equal blocks
pub paint-same : {A : Type 0} {d : A} {from stride w n : ℕ} {f g : ℕ → ℕ → A} {old new : List A} → ((r x : ℕ) → r < n → x < w → f r x ≡ g r x) → Painted d from stride w n f old new → Painted d from stride w n g old new
paint-same same p = record { long = p.long; holds = λ r x a b. p.holds r x a b ∙ same r x a b; others = p.others }

-- ---- two blocks side by side, the second from at on; its rule is that of the columns after the first
module _ {A : Type 0} {d : A} {from at stride v w n : ℕ} {f : ℕ → ℕ → A} {old mid new : List A} where
  pub paint-beside : Painted d from stride v n f old mid → Painted d at stride w n (λ r x. f r (v + x)) mid new → at ≡ from + v → v + w ≤ stride → Painted d from stride (v + w) n f old new
  paint-beside p q z fit = record {
    long = q.long ∙ p.long;
    holds = λ r x a b. here r x a b (under v x);
    others = λ i h. q.others i (λ r x a b e. h r (v + x) a (omega arith) (e ∙ apart (r * stride) x)) ∙ p.others i (λ r x a b e. h r x a (omega arith) e);
  }
    where
      apart : (a x : ℕ) → at + a + x ≡ from + a + (v + x)
      apart a x = omega arith

      here : (r x : ℕ) → r < n → x < v + w → ((v ≤ x) ⊎ (x < v)) → get_or new (from + r * stride + x) d ≡ f r x
      here r x a b (inl c) = ap (λ i. get_or new i d) (place (r * stride)) ∙ q.holds r (x - v) a (omega arith) ∙ ap (f r) whole
        where
          place : (m : ℕ) → from + m + x ≡ at + m + (x - v)
          place m = omega arith

          whole : v + (x - v) ≡ x
          whole = omega arith
      here r x a b (inr c) =
          q.others (from + r * stride + x) (λ s y k l e. N.lt_irrefl x (N.lt_of_lt_of_le c (other s y l e))) ∙ p.holds r x a c
        where
          less : (a b y : ℕ) → from + a + x ≡ at + b + y → a + x ≡ b + (v + y)
          less a b y e = omega arith

          other : (s y : ℕ) → y < w → from + r * stride + x ≡ at + s * stride + y → v ≤ x
          other s y l e = omega (arith, (cell-inj r s {x = x} {y = v + y} {w = stride} (omega arith) (omega arith) (less (r * stride) (s * stride) y e)).1)

-- the second block's places are as they were before the first was written
pub beside-now : {A : Type 0} {d : A} {from stride v n : ℕ} (at w : ℕ) {f : ℕ → ℕ → A} {old mid : List A} → Painted d from stride v n f old mid → at ≡ from + v → v + w ≤ stride → (r x : ℕ) → x < w → get_or mid (at + r * stride + x) d ≡ get_or old (at + r * stride + x) d
beside-now {from = from} {stride = stride} {v = v} at w p u fit r x l = p.others (at + r * stride + x) (λ s y k b e. N.lt_irrefl y (N.lt_of_lt_of_le b (other s y b e)))
  where
    less : (a b y : ℕ) → at + a + x ≡ from + b + y → a + (v + x) ≡ b + y
    less a b y e = omega arith

    other : (s y : ℕ) → y < v → at + r * stride + x ≡ from + s * stride + y → v ≤ y
    other s y b e = omega (arith, (cell-inj r s {x = v + x} {y = y} {w = stride} (omega arith) (omega arith) (less (r * stride) (s * stride) y e)).1)
