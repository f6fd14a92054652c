-- Folding keeps the plane, and every step of the folded list is taken. Assumes nothing.
--     two-are-one       two steps on one block, one after the other, are one
--     two-are-none      and where their residuals sum to zero, none
--     neighbours        two steps that share no sample, exchanged
--     join-taken        a step that becomes one with its partner
--     pass-taken        the whole list
use mathlib.Core.Path.{◌≡◌, refl, sym, ap, ◌∙◌, subst, fun_ext}
use mathlib.Core.Bool.{Bool, true, false, cond}
use mathlib.Core.List.{List, [], ◌∷◌}
use Prim.Native.Nat.{ℕ, zero, suc, ◌+◌, ◌≤◌, ◌<◌}
use native.Mathlib.Nat as N
use native.Mathlib.Omega.{arith}
use borrow.Author.Tests.{leb-true}
use lib.Dec.{eqb, lit≤}
use lib.IntN.{ℤ, pos, negsuc, nat_abs, ◌+ℤ◌, ◌-ℤ◌, +ℤ_assoc, +ℤ_comm, +ℤ-neg_ℤ_cancel}
use lib.ListN.{length}
use Rattle.answers.specs.declared.Answer.{Answer}
use Rattle.answers.specs.Answers.{done}
use Rattle.whole.specs.Numbers.{in_range}
use Rattle.whole.specs.Sums.{Within, item}
use Rattle.whole.proofs.Fill.{tab-at, within-tab}
use Rattle.whole.proofs.Range.{in-range-size}
use Rattle.whole.proofs.Search.{seek-passed}
use Rattle.whole.proofs.Size.{abs-sub}
use Rattle.wht.specs.Wht.{fwht, iwht}
use Rattle.wht.proofs.Inverse.{iwht-fwht, fwht-length}
use Rattle.wht.proofs.Size.{fwht-size}
use Rattle.lossless.specs.Gains.{add_on, gain, gained}
use Rattle.lossless.specs.Step.{Where, Step, place, spot, sample, front, step_of}
use Rattle.lossless.specs.Wanted.{step_with}
use Rattle.lossless.proofs.Adding.{sample-size}
use Rattle.lossless.proofs.Arguments.{Fine, fine, front-done, depth_is, width_is, column-is, lies}
use Rattle.lossless.proofs.Blocks.{Passes, at-spot}
use Rattle.lossless.proofs.Calls.{taking}
use Rattle.lossless.proofs.Gains.{add_on-none}
use Rattle.remain.specs.Remaining.{Entry}
use Rattle.keeping.specs.Range.{Area}
use Rattle.keeping.specs.Steps.{step_in, steps_in}
use Rattle.reached.proofs.Blocks.{blocks-apart}
use Rattle.lossless.specs.Replay.{Apart, Replay, start, more}
use Rattle.lossless.proofs.Withdrawals.{was, left, steps-exchange}
use Rattle.folding.specs.Fold.{Perhaps, is_zero, summed, joins}
use Rattle.folding.specs.Pass.{placed, one_pass}
use Rattle.folding.proofs.OnePass.{Paired, here, past, Joined, alone, paired, joined, Same, alike_is}

-- ---- gains that add up
add_on-sum : (f g : ℕ → ℤ) (p : List ℤ) → add_on g (add_on f p) ≡ add_on (λ i. f i +ℤ g i) p
unfolding add_on
add_on-sum f g [] = refl
add_on-sum f g (x ∷ p) = λ i. +ℤ_assoc x (f 0) (g 0) i ∷ add_on-sum (λ j. f (suc j)) (λ j. g (suc j)) p i

module _ (at : ℕ → ℕ) where
  gain-sum : (g h : ℕ → ℤ) (n i : ℕ) → gain at g n i +ℤ gain at h n i ≡ gain at (λ k. g k +ℤ h k) n i
  unfolding gain
  gain-sum g h zero i = refl
  gain-sum g h (suc n) i = go (eqb (at n) i) (gain-sum g h n i)
    where
      go : (b : Bool) → gain at g n i +ℤ gain at h n i ≡ gain at (λ k. g k +ℤ h k) n i
          → cond b (g n) (gain at g n i) +ℤ cond b (h n) (gain at h n i) ≡ cond b (g n +ℤ h n) (gain at (λ k. g k +ℤ h k) n i)
      go true r = refl
      go false r = r

  gain-same : (g h : ℕ → ℤ) (n : ℕ) → ((k : ℕ) → k < n → g k ≡ h k) → (i : ℕ) → gain at g n i ≡ gain at h n i
  unfolding gain
  gain-same g h zero e i = refl
  gain-same g h (suc n) e i = λ t. cond (eqb (at n) i) (e n (N.le_refl (suc n)) t) (gain-same g h n (λ k l. e k (omega arith)) i t)

  gain-zero : (n i : ℕ) → gain at (λ _. pos 0) n i ≡ pos 0
  unfolding gain
  gain-zero zero i = refl
  gain-zero (suc n) i = go (eqb (at n) i) (gain-zero n i)
    where
      go : (b : Bool) → gain at (λ _. pos 0) n i ≡ pos 0 → cond b (pos 0) (gain at (λ _. pos 0) n i) ≡ pos 0
      go true r = refl
      go false r = r

  -- two gains one after the other
  gained-twice : (g h s : ℕ → ℤ) (p : List ℤ) → ((k : ℕ) → k < 16 → s k ≡ g k +ℤ h k) → gained at h (gained at g p) ≡ gained at s p
  gained-twice g h s p e =
      add_on-sum (gain at g 16) (gain at h 16) p
      ∙ ap (λ (f : ℕ → ℤ). add_on f p) (fun_ext (λ (i : ℕ). gain-sum g h 16 i ∙ sym (gain-same s (λ k. g k +ℤ h k) 16 e i)))

  gained-none : (s : ℕ → ℤ) (p : List ℤ) → ((k : ℕ) → k < 16 → s k ≡ pos 0) → gained at s p ≡ p
  gained-none s p e =
      ap (λ (f : ℕ → ℤ). add_on f p) (fun_ext (λ (i : ℕ). gain-same s (λ _. pos 0) 16 e i ∙ gain-zero 16 i)) ∙ add_on-none p

-- ---- two steps on one block
module _ (w : Where) (p q r l m : List ℤ) (e : step_of p (step_with w l) ≡ (done, q)) (f : step_of q (step_with w m) ≡ (done, r)) where
  abbrev g : ℕ → ℤ
  g = item (iwht l)

  abbrev h : ℕ → ℤ
  h = item (iwht m)

  pub first : ((front (length p) (step_with w l)).number ≡ 0) × Passes (sample w.depth) (spot w) p g
  first = was p q (step_with w l) g e

  second : ((front (length q) (step_with w m)).number ≡ 0) × Passes (sample w.depth) (spot w) q h
  second = was q r (step_with w m) h f

  args : Fine (length p) (step_with w l)
  args = fine (length p) (step_with w l) first.0

  sum_is : (k : ℕ) → k < 16 → item (summed l m) k ≡ g k +ℤ h k
  sum_is k i = tab-at (pos 0) 16 (λ k. g k +ℤ h k) k i

  -- the last sample, by the first
  last-is : (k : ℕ) → k < 16 → item p (spot w k) +ℤ item (summed l m) k ≡ item q (spot w k) +ℤ h k
  last-is k i =
      ap (λ z. item p (spot w k) +ℤ z) (sum_is k i)
      ∙ sym (+ℤ_assoc (item p (spot w k)) (g k) (h k))
      ∙ ap (λ z. z +ℤ h k) (sym (at-spot (spot w) g p (lies args) k i) ∙ ap (λ (y : List ℤ). item y (spot w k)) (left p q (step_with w l) g e))

  pub good-last : (k : ℕ) → k < 16 → sample w.depth (item p (spot w k) +ℤ item (summed l m) k) ≡ true
  good-last k i = ap (sample w.depth) (last-is k i) ∙ second.1.later k i

  -- a summed residual is the difference of two samples
  pub sum-small : (k : ℕ) → k < 16 → nat_abs (item (summed l m) k) ≤ 8190
  sum-small k i =
      let y = item p (spot w k) in
      let z = item (summed l m) k in
      let d = (depth_is w args.depths).1 in
      omega (arith, ap nat_abs (sym (+ℤ-neg_ℤ_cancel z y) ∙ ap (λ v. v -ℤ y) (+ℤ_comm z y)), abs-sub (y +ℤ z) y, sample-size w.depth (y +ℤ z) d (good-last k i), sample-size w.depth y d (first.1.present k i))

  small : Within 8190 (summed l m)
  small = within-tab 8190 16 (λ k. g k +ℤ h k) (λ k i. subst (λ (z : ℤ). nat_abs z ≤ 8190) (sum_is k i) (sum-small k i))

  abbrev levels : List ℤ
  levels = fwht (summed l m)

  back_is : (k : ℕ) → item (iwht levels) k ≡ item (summed l m) k
  back_is k = ap (λ (t : List ℤ). item t k) (iwht-fwht (summed l m) refl)

  one-fine : Fine (length p) (step_with w levels)
  one-fine =
      record {
        depths = args.depths;
        wide = args.wide;
        visible = args.visible;
        fit = args.fit;
        levels = record { count = fwht-length (summed l m); small = λ k i. N.le_trans (fwht-size (summed l m) small k) (lit≤ tt) };
      }

  pub two-are-one : step_of p (step_with w levels) ≡ (done, r)
  two-are-one =
      taking (front (length p) (step_with w levels)) (sample w.depth) (spot w) p (item (iwht levels))
      (ap (λ (a : Answer). a.number) (front-done (length p) (step_with w levels) one-fine))
      (record { present = first.1.present; later = λ k i. ap (λ z. sample w.depth (item p (spot w k) +ℤ z)) (back_is k) ∙ good-last k i })
      ∙ ap (λ (y : List ℤ). (done, y))
      (sym (gained-twice (spot w) g h (item (iwht levels)) p (λ k i. back_is k ∙ sum_is k i))
      ∙ ap (gained (spot w) h) (left p q (step_with w l) g e) ∙ left q r (step_with w m) h f)

  no_number : (z : ℤ) → nat_abs z ≤ 0 → z ≡ pos 0
  no_number (pos n) b = ap pos (omega arith)
  no_number (negsuc n) b = absurd (N.not-suc-le-zero b)

  pub two-are-none : is_zero (summed l m) ≡ true → r ≡ p
  two-are-none z =
      sym (ap (gained (spot w) h) (left p q (step_with w l) g e) ∙ left q r (step_with w m) h f)
      ∙ gained-twice (spot w) g h (item (summed l m)) p sum_is
      ∙ gained-none (spot w) (item (summed l m)) p
      (λ k i. no_number (item (summed l m) k)
      (in-range-size 0 (pos 0) (pos 0) (item (summed l m) k) (lit≤ tt) (lit≤ tt)
      (seek-passed (λ k. in_range (pos 0) (pos 0) (item (summed l m) k)) 16 (leb-true 16 _ z) k i)))

-- ---- a step and its partner
-- two neighbours that share no sample, exchanged
pub neighbours : (p q r : List ℤ) (s t : Step) → Apart t s → step_of p s ≡ (done, q) → step_of q t ≡ (done, r) → (x : List ℤ) × (step_of p t ≡ (done, x)) × (step_of x s ≡ (done, r))
neighbours p q r s t n e f = opened (steps-exchange p r [] [] s t n (more (more start e) f))
  where
    opened : Replay step_of p (s ∷ t ∷ []) r → (x : List ℤ) × (step_of p t ≡ (done, x)) × (step_of x s ≡ (done, r))
    opened (more {q = x} (more start g) h) = (x, g, h)

-- a taken step's block lies within the stride
pub column_fits : (p q : List ℤ) (extent : Area) (e : Entry) → step_of p (step_in extent e) ≡ (done, q) → e.mark.column + 4 ≤ extent.stride
column_fits p q extent e h =
    let w = (step_in extent e).at in
    let f = fine (length p) (step_in extent e) (was p q (step_in extent e) (item (iwht e.levels)) h).0 in
    N.le_trans (column-is w (length p) f.fit) (width_is w f.visible).1

-- a step on the block of another is that step with other levels
pub same_step : (extent : Area) (e f : Entry) → Same e f → step_in extent e ≡ step_with (step_in extent f).at e.levels
same_step extent e f s = λ i. step_with (place (s.depths i) extent.stride extent.width (s.rows i) (s.columns i)) e.levels

pub join-taken : (extent : Area) (p : List ℤ) (e : Entry) {ts us : List Entry} → Paired e ts us → (q r : List ℤ) → Replay step_of p (steps_in extent ts) q → step_of q (step_in extent e) ≡ (done, r)
    → Replay step_of p (steps_in extent us) r
join-taken extent p e (here {f} {ts} x y) q r (more {q = a} t s) h =
    let k = ap (step_of q) (sym (same_step extent e f (alike_is e f y))) ∙ h in
    go (is_zero (summed f.levels e.levels)) refl k
  where
    go : (b : Bool) → is_zero (summed f.levels e.levels) ≡ b → step_of q (step_with (step_in extent f).at e.levels) ≡ (done, r)
        → Replay step_of p (steps_in extent (cond b ts (record { mark = f.mark; levels = fwht (summed f.levels e.levels) } ∷ ts))) r
    go true z k = subst (Replay step_of p (steps_in extent ts)) (sym (two-are-none (step_in extent f).at a q r f.levels e.levels s k z)) t
    go false z k = more t (two-are-one (step_in extent f).at a q r f.levels e.levels s k)
join-taken extent p e (past {f} {ts} {us} x y) q r (more {q = a} t s) h =
    let n = blocks-apart extent e f (column_fits q r extent e h) (column_fits a q extent f s) x in
    let d = neighbours a q r (step_in extent f) (step_in extent e) n s h in
    more (join-taken extent p e y a d.0 t d.1) d.2

-- the folded list, replayed from the old base, leaves the same plane, and every step of it is taken
pub pass-taken : (extent : Area) (p : List ℤ) (ts : List Entry) (r : List ℤ) → Replay step_of p (steps_in extent ts) r → Replay step_of p (steps_in extent (one_pass ts)) r
unfolding one_pass
pass-taken extent p [] r t = t
pass-taken extent p (e ∷ ts) r (more {q = q} t s) = go (joined e (one_pass ts)) (pass-taken extent p ts q t)
  where
    go : Joined e (one_pass ts) → Replay step_of p (steps_in extent (one_pass ts)) q → Replay step_of p (steps_in extent (placed e (one_pass ts) (joins e (one_pass ts)))) r
    go (alone a n) u = subst (λ (o : Perhaps (List Entry)). Replay step_of p (steps_in extent (placed e (one_pass ts) o)) r) (sym n) (more u s)
    go (paired us a n) u = subst (λ (o : Perhaps (List Entry)). Replay step_of p (steps_in extent (placed e (one_pass ts) o)) r) (sym n) (join-taken extent p e a q r u s)
