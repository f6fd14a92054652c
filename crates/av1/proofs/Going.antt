-- The run of a table of steps: what one step asks, and what it leaves. Assumes nothing.
--     turn-x-size, turn-y-size     what a turn leaves is within 2^21
--     rests-put                    two numbers stored, and their marks
--     Next, step-next              a step that is not refused: the list keeps its length, the place moves by at most 2, the marks hold
--     Going                        a run that has come to step k: what is still to do leads to the same end
--     going_start, going-room, going-stop, going_more, going_end    its laws
use mathlib.Core.Path.{◌≡◌, refl, sym, ap, ◌∙◌, subst}
use mathlib.Core.Bool.{Bool, true, false, not, ◌&&◌, cond}
use mathlib.Core.List.{List}
use Prim.Native.Nat.{ℕ, suc, ◌+◌, ◌*◌, ◌-◌, ◌^◌, ◌≤◌, ◌<◌}
use native.Mathlib.Nat as N
use native.Mathlib.Numerals.{add-one}
use native.Mathlib.Decide.{ℕ_discrete}
use native.Mathlib.Omega.{arith}
use borrow.Author.Tests.{eq-eqb, ne_eqb, eqb-false}
use lib.Dec.{T, lit≤, eqb, ltb, ltb→lt}
use lib.IntN.{ℤ, pos, nat_abs, ◌+ℤ◌, ◌-ℤ◌, ◌*ℤ◌}
use lib.ListN.{length, get_or, set, length-set}
use lib.Seq.{get_or-set_same, get_or-set_other}
use Rattle.answers.specs.declared.Answer.{Answer}
use Rattle.answers.specs.Answers.{done, refused}
use Rattle.answers.proofs.Verdicts.{passed}
use Rattle.whole.specs.Numbers.{in_range}
use Rattle.whole.specs.Sums.{Within, item}
use Rattle.whole.proofs.Num.{Num, plus, minus, times}
use Rattle.whole.proofs.Range.{in-range-size}
use Rattle.whole.proofs.Sums.{within_all}
use Rattle.whole.proofs.Tests.{and_left, and_right}
use Rattle.av1.specs.Steps.{turn_x, turn_y, turn_of, sums_of, step_of, onward, goes}
use Rattle.av1.specs.Room.{room_of, marked, angle_of, legal_step, legal, Rests, StepRoom, Cosines}
use Rattle.av1.proofs.Wide.{half, small-floor}

-- ---- sizes
num : (z : ℤ) (B : ℕ) → nat_abs z ≤ B → Num z z B
num z B h = record { is = refl; size = h }

module _ (c s x y : ℤ) (hc : nat_abs c ≤ 4096) (hs : nat_abs s ≤ 4096) (hx : nat_abs x ≤ 524288) (hy : nat_abs y ≤ 524288) where
  pub turn-x-size : nat_abs (turn_x c s x y) ≤ 2 ^ 21
  unfolding turn_x
  turn-x-size =
      let p : Num (x *ℤ c) (x *ℤ c) 2147483648 = times (num x 524288 hx) (num c 4096 hc) in
      let q : Num (y *ℤ s) (y *ℤ s) 2147483648 = times (num y 524288 hy) (num s 4096 hs) in
      let w : Num (x *ℤ c -ℤ y *ℤ s) (x *ℤ c -ℤ y *ℤ s) 4294967296 = minus p q in
      small-floor (x *ℤ c -ℤ y *ℤ s +ℤ pos 2048) (half w).size

  pub turn-y-size : nat_abs (turn_y c s x y) ≤ 2 ^ 21
  unfolding turn_y
  turn-y-size =
      let p : Num (x *ℤ s) (x *ℤ s) 2147483648 = times (num x 524288 hx) (num s 4096 hs) in
      let q : Num (y *ℤ c) (y *ℤ c) 2147483648 = times (num y 524288 hy) (num c 4096 hc) in
      let w : Num (x *ℤ s +ℤ y *ℤ c) (x *ℤ s +ℤ y *ℤ c) 4294967296 = plus p q in
      small-floor (x *ℤ s +ℤ y *ℤ c +ℤ pos 2048) (half w).size

-- ---- marks
module _ (β γ : ℕ → Bool) (m : Bool) (t : List ℤ) (d e : ℕ) (u v : ℤ) where
  pub rests-put : Rests β t → d < length t → e < length t → nat_abs u ≤ room_of m → nat_abs v ≤ room_of m → γ d ≡ m → γ e ≡ m → ((i : ℕ) → (i ≡ d → ⊥) → (i ≡ e → ⊥) → γ i ≡ β i) → Rests γ (set (set t d u) e v)
  rests-put r hd he hu hv gd ge off i = at-e (ℕ_discrete i e)
    where
      at-d : (i ≡ e → ⊥) → Dec (i ≡ d) → nat_abs (item (set t d u) i) ≤ room_of (γ i)
      at-d ne (yes p) = rw (p, gd, get_or-set_same t d u (pos 0) hd) hu
      at-d ne (no p) = rw (off i p ne, get_or-set_other t d i u (pos 0) p) (r i)

      at-e : Dec (i ≡ e) → nat_abs (item (set (set t d u) e v) i) ≤ room_of (γ i)
      at-e (yes p) = rw (p, ge, get_or-set_same (set t d u) e v (pos 0) (subst (λ (k : ℕ). e < k) (sym (length-set t d u)) he)) hv
      at-e (no p) = rw (get_or-set_other (set t d u) e i v (pos 0) p) (at-d p (ℕ_discrete i d))

module _ (β : ℕ → Bool) (a b : ℕ) (m : Bool) where
  mark-a : marked β a b m a ≡ m
  mark-a = rw (eq-eqb a a refl)

  mark-b : marked β a b m b ≡ m
  mark-b = go (eqb b a)
    where
      go : (z : Bool) → cond z m (cond (eqb b b) m (β b)) ≡ m
      go true = refl
      go false = rw (eq-eqb b b refl)

  mark-off : (i : ℕ) → (i ≡ a → ⊥) → (i ≡ b → ⊥) → marked β a b m i ≡ β i
  mark-off i p q = rw (ne_eqb i a p, ne_eqb i b q)

-- ---- one step
pub record Next (n p : ℕ) (γ : ℕ → Bool) (w : Answer × List ℤ) : Type 0 where
  pub long : length w.1 ≡ n
  pub near : w.0.place ≤ p + 2
  pub rests : Rests γ w.1

module _ (lo hi : ℤ) (hl : nat_abs lo ≤ 2 ^ 19) (hh : nat_abs hi ≤ 2 ^ 19) (cos : List ℤ) (co : Cosines cos) (n a b g p : ℕ) (β : ℕ → Bool) (t : List ℤ) (e : length t ≡ n) (r : Rests β t) (s : StepRoom n (length cos) a b g (item t a) (item t b)) where
  within_a : a < length t
  within_a = subst (λ (k : ℕ). a < k) (sym e) s.in-a

  within_b : b < length t
  within_b = subst (λ (k : ℕ). b < k) (sym e) s.in_b

  two : (d f : ℕ) (u v : ℤ) → length (set (set t d u) f v) ≡ n
  two d f u v = length-set (set t d u) f v ∙ length-set t d u ∙ e

  sums_next : (sums_of lo hi a b p t).0.number ≡ 0 → Next n p (marked β a b false) (sums_of lo hi a b p t)
  sums_next z =
      let u = item t a +ℤ item t b in
      let v = item t a -ℤ item t b in
      let p₁ = passed (in_range lo hi u) 14 0 p _ z in
      let p₂ = passed (in_range lo hi v) 14 0 (p + 1) _ p₁.1 in
      let hu = in-range-size (2 ^ 19) lo hi u hl hh p₁.0 in
      let hv = in-range-size (2 ^ 19) lo hi v hl hh p₂.0 in
      rw (p₁.0, p₂.0)
      record {
        long = two a b u v;
        near = N.le_refl (p + 2);
        rests = rests-put β (marked β a b false) false t a b u v r within_a within_b hu hv (mark-a β a b false) (mark-b β a b false) (mark-off β a b false);
      }

  module _ (small-x : nat_abs (item t a) ≤ 524288) (small-y : nat_abs (item t b) ≤ 524288) (h : ℕ) where
    turn-next : Next n p (marked β a b true) (refused 0 0 p, turn_of cos h a b a b t)
    turn-next =
        record {
          long = two a b _ _;
          near = N.le-add_right p 2;
          rests = rests-put β (marked β a b true) true t a b _ _ r within_a within_b
              (turn-x-size _ _ _ _ (co.small (h * 2)) (co.small (h * 2 + 1)) small-x small-y) (turn-y-size _ _ _ _ (co.small (h * 2)) (co.small (h * 2 + 1)) small-x small-y)
              (mark-a β a b true) (mark-b β a b true) (mark-off β a b true);
        }

    flip-next : Next n p (marked β a b true) (refused 0 0 p, turn_of cos h a b b a t)
    flip-next =
        record {
          long = two b a _ _;
          near = N.le-add_right p 2;
          rests = rests-put β (marked β a b true) true t b a _ _ r within_b within_a
              (turn-x-size _ _ _ _ (co.small (h * 2)) (co.small (h * 2 + 1)) small-x small-y) (turn-y-size _ _ _ _ (co.small (h * 2)) (co.small (h * 2 + 1)) small-x small-y)
              (mark-b β a b true) (mark-a β a b true) (λ i x y. mark-off β a b true i y x);
        }

  pub step-next : (step_of lo hi cos a b g p t).0.number ≡ 0 → Next n p (marked β a b (not (eqb g 0))) (step_of lo hi cos a b g p t)
  unfolding step_of
  step-next z = by_kind (eqb g 0) refl z
    where
      by-flip : nat_abs (item t a) ≤ 524288 → nat_abs (item t b) ≤ 524288 → (f : Bool) → Next n p (marked β a b true) (cond f (refused 0 0 p, turn_of cos g a b a b t) (refused 0 0 p, turn_of cos (g - 128) a b b a t))
      by-flip hx hy true = turn-next hx hy g
      by-flip hx hy false = flip-next hx hy (g - 128)

      by_kind : (k : Bool) → eqb g 0 ≡ k → (cond k (sums_of lo hi a b p t) (cond (ltb g 128) (refused 0 0 p, turn_of cos g a b a b t) (refused 0 0 p, turn_of cos (g - 128) a b b a t))).0.number ≡ 0 → Next n p (marked β a b (not k)) (cond k (sums_of lo hi a b p t) (cond (ltb g 128) (refused 0 0 p, turn_of cos g a b a b t) (refused 0 0 p, turn_of cos (g - 128) a b b a t)))
      by_kind true q y = sums_next y
      by_kind false q y = by-flip (s.small-x (eqb-false g 0 q)) (s.small-y (eqb-false g 0 q)) (ltb g 128)

-- ---- the tests of a table's steps
module _ (ops : List ℕ) (n c : ℕ) (β : ℕ → Bool) (k count : ℕ) (h : k < count) where
  abbrev A : ℕ
  A = get_or ops (k * 3) 0

  abbrev B : ℕ
  B = get_or ops (k * 3 + 1) 0

  abbrev G : ℕ
  G = get_or ops (k * 3 + 2) 0

  legal-split : T (legal ops n c β k (count - k)) → T (legal_step n c β A B G) × T (legal ops n c (marked β A B (not (eqb G 0))) (k + 1) (count - (k + 1)))
  unfolding legal
  legal-split l =
      let j : count - k ≡ suc (count - suc k) = omega arith in
      let f = rw (j, legal) at l in
      rw (add-one k) (and_left (legal_step n c β A B G) _ f, and_right (legal_step n c β A B G) _ f)

-- one step passes its test: what it asks
module _ (n c : ℕ) (β : ℕ → Bool) (a b g : ℕ) (t : List ℤ) (r : Rests β t) (l : T (legal_step n c β a b g)) where
  rest₁ : T (ltb b n && cond (eqb g 0) true (ltb (angle_of g * 2 + 1) c && (not (β a) && not (β b))))
  rest₁ = and_right (ltb a n) _ l

  rest₂ : (g ≡ 0 → ⊥) → T (ltb (angle_of g * 2 + 1) c && (not (β a) && not (β b)))
  rest₂ z = subst T (ap (λ (q : Bool). cond q true (ltb (angle_of g * 2 + 1) c && (not (β a) && not (β b)))) (ne_eqb g 0 z)) (and_right (ltb b n) _ rest₁)

  unmarked : (g ≡ 0 → ⊥) → T (not (β a) && not (β b))
  unmarked z = and_right (ltb (angle_of g * 2 + 1) c) _ (rest₂ z)

  wide_at : (i : ℕ) → nat_abs (item t i) ≤ 2 ^ 21
  wide_at i = go (β i) (r i)
    where
      go : (m : Bool) → nat_abs (item t i) ≤ room_of m → nat_abs (item t i) ≤ 2 ^ 21
      go true h = h
      go false h = N.le_trans h (lit≤ tt)

  small_at : (i : ℕ) → T (not (β i)) → nat_abs (item t i) ≤ 2 ^ 19
  small_at i q = go (β i) q (r i)
    where
      go : (m : Bool) → T (not m) → nat_abs (item t i) ≤ room_of m → nat_abs (item t i) ≤ 2 ^ 19
      go true q h = absurd q
      go false q h = h

  pub step_room : StepRoom n c a b g (item t a) (item t b)
  step_room =
      record {
        in-a = ltb→lt a n (and_left (ltb a n) _ l);
        in_b = ltb→lt b n (and_left (ltb b n) _ rest₁);
        in_g = λ z. ltb→lt (angle_of g * 2 + 1) c (and_left (ltb (angle_of g * 2 + 1) c) _ (rest₂ z));
        wide-x = wide_at a;
        wide-y = wide_at b;
        small-x = λ z. small_at a (and_left (not (β a)) _ (unmarked z));
        small-y = λ z. small_at b (and_right (not (β a)) _ (unmarked z));
      }

-- ---- the run
pub record Going (lo hi : ℤ) (cos : List ℤ) (ops : List ℕ) (n count : ℕ) (whole : Answer × List ℤ) (t : List ℤ) (p k : ℕ) : Type 0 where
  pub most : k ≤ count
  pub long : length t ≡ n
  pub near : p ≤ 64 + k * 2
  pub marks : ℕ → Bool
  pub lawful : T (legal ops n (length cos) marks k (count - k))
  pub rests : Rests marks t
  pub same : whole ≡ goes lo hi cos ops k (count - k) p t

module _ (lo hi : ℤ) (cos : List ℤ) (ops : List ℕ) where
  goes-split : (k count p : ℕ) (t : List ℤ) → k < count → goes lo hi cos ops k (count - k) p t ≡ onward (step_of lo hi cos (get_or ops (k * 3) 0) (get_or ops (k * 3 + 1) 0) (get_or ops (k * 3 + 2) 0) p t) (λ q u. goes lo hi cos ops (k + 1) (count - (k + 1)) q u)
  unfolding goes
  goes-split k count p t h =
      let j : count - k ≡ suc (count - suc k) = omega arith in
      rw (j, goes, add-one k)

  onward-stop : (w : Answer × List ℤ) (f : ℕ → List ℤ → Answer × List ℤ) → (w.0.number ≡ 0 → ⊥) → onward w f ≡ w
  onward-stop w f h = rw (ne_eqb w.0.number 0 h)

  onward-on : (w : Answer × List ℤ) (f : ℕ → List ℤ → Answer × List ℤ) → w.0.number ≡ 0 → onward w f ≡ f w.0.place w.1
  onward-on w f h = rw (eq-eqb w.0.number 0 h)

  pub going_start : (n count first : ℕ) (t : List ℤ) → length t ≡ n → first ≤ 64 → Within (2 ^ 19) t → T (legal ops n (length cos) (λ i. false) 0 count) → Going lo hi cos ops n count (goes lo hi cos ops 0 count first t) t first 0
  going_start n count first t e f h l =
      record {
        most = omega arith;
        long = e;
        near = omega arith;
        marks = λ i. false;
        lawful = subst (λ (m : ℕ). T (legal ops n (length cos) (λ i. false) 0 m)) (sym (N.sub-zero count)) l;
        rests = λ i. within_all (2 ^ 19) t h i;
        same = ap (λ (m : ℕ). goes lo hi cos ops 0 m first t) (sym (N.sub-zero count));
      }

  module _ {n count : ℕ} {whole : Answer × List ℤ} {t : List ℤ} {p k : ℕ} (s : Going lo hi cos ops n count whole t p k) where
    pub going_end : count ≤ k → whole ≡ (done, t)
    unfolding goes
    going_end h = let j : count - k ≡ 0 = omega arith in s.same ∙ rw j

    module _ (h : k < count) where
      pub going-room : StepRoom n (length cos) (get_or ops (k * 3) 0) (get_or ops (k * 3 + 1) 0) (get_or ops (k * 3 + 2) 0) (item t (get_or ops (k * 3) 0)) (item t (get_or ops (k * 3 + 1) 0))
      going-room = step_room n (length cos) s.marks _ _ _ t s.rests (legal-split ops n (length cos) s.marks k count h s.lawful).0

      module _ (w : Answer × List ℤ) (e : w ≡ step_of lo hi cos (get_or ops (k * 3) 0) (get_or ops (k * 3 + 1) 0) (get_or ops (k * 3 + 2) 0) p t) where
        pub going-stop : (w.0.number ≡ 0 → ⊥) → w ≡ whole
        going-stop z =
            e
            ∙ sym (s.same ∙ goes-split k count p t h ∙ onward-stop (step_of lo hi cos (get_or ops (k * 3) 0) (get_or ops (k * 3 + 1) 0) (get_or ops (k * 3 + 2) 0) p t) (λ q u. goes lo hi cos ops (k + 1) (count - (k + 1)) q u) (λ q. z (ap (λ (x : Answer × List ℤ). x.0.number) e ∙ q)))

        pub going_more : nat_abs lo ≤ 2 ^ 19 → nat_abs hi ≤ 2 ^ 19 → Cosines cos → w.0.number ≡ 0 → Going lo hi cos ops n count whole w.1 w.0.place (k + 1)
        going_more hl hh co z =
            let q = ap (λ (x : Answer × List ℤ). x.0.number) (sym e) ∙ z in
            let x = step-next lo hi hl hh cos co n (get_or ops (k * 3) 0) (get_or ops (k * 3 + 1) 0) (get_or ops (k * 3 + 2) 0) p s.marks t s.long s.rests going-room q in
            let x' = subst (λ (v : Answer × List ℤ). Next n p (marked s.marks (get_or ops (k * 3) 0) (get_or ops (k * 3 + 1) 0) (not (eqb (get_or ops (k * 3 + 2) 0) 0))) v) (sym e) x in
            record {
              most = omega arith;
              long = x'.long;
              near = omega (arith, x'.near, s.near);
              marks = marked s.marks (get_or ops (k * 3) 0) (get_or ops (k * 3 + 1) 0) (not (eqb (get_or ops (k * 3 + 2) 0) 0));
              lawful = (legal-split ops n (length cos) s.marks k count h s.lawful).1;
              rests = x'.rests;
              same = s.same ∙ goes-split k count p t h ∙ ap (λ (v : Answer × List ℤ). onward v (λ q u. goes lo hi cos ops (k + 1) (count - (k + 1)) q u)) (sym e) ∙ onward-on w (λ q u. goes lo hi cos ops (k + 1) (count - (k + 1)) q u) z;
            }
