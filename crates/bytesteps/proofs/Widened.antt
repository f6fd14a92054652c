-- The calls on bytes and the wide calls on a plane of the same values, from document 02, section 4. Assumes nothing.
--     at-eight, other-depth              a call on bytes, by its depth
--     gain-back                          what a wide call leaves of a plane without negative samples has none either
--     step-wide, undo-wide               at depth 8 the wide call gives the same answer and leaves the same values, taken or refused
--     step-accepted, undo-accepted       so for every accepted call on bytes
--     step-eight-never, undo-eight-never, wide-eight-never     refusal 8 never comes, nor from the wide calls on a plane of bytes
use mathlib.Core.Path.{◌≡◌, refl, sym, ap, ◌∙◌, subst}
use mathlib.Core.Bool.{Bool, true, false, cond}
use mathlib.Core.List.{List, map}
use Prim.Native.Nat.{ℕ, zero, suc, ◌≤◌, ◌<◌}
use native.Mathlib.Nat as N
use native.Mathlib.Decide.{ℕ_discrete}
use native.Mathlib.Omega.{arith}
use borrow.Author.Tests.{eqb-true, eq-eqb, ne_eqb}
use lib.Dec.{T, eqb}
use lib.IntN.{ℤ, pos, negsuc, neg_ℤ, nat_abs, ◌+ℤ◌, +ℤ_idr}
use lib.Signed.{non_neg}
use lib.ListN.{length, get_or-map}
use Rattle.whole.specs.Sums.{item}
use Rattle.whole.specs.Search.{seek}
use Rattle.answers.specs.declared.Answer.{Answer}
use Rattle.answers.specs.Answers.{done, refused}
use Rattle.answers.proofs.Verdicts.{either, search-either}
use Rattle.octets.specs.Octets.{Bytes}
use Rattle.octets.proofs.Lists.{bytes-all, numbers-back, bytes_back}
use Rattle.wht.specs.Wht.{iwht}
use Rattle.wht.specs.Calls.{number_ok}
use Rattle.lossless.specs.Gains.{gain, gained, later_ok, samples, judged, gaining}
use Rattle.lossless.specs.Step.{Step, spot, sample, deep, strides, widths, fits, front, gain_of, step_of, undo_of}
use Rattle.lossless.proofs.Gains.{length-add_on, get_or-add_on}
use Rattle.lossless.proofs.Blocks.{Passes}
use Rattle.lossless.proofs.Calls.{accepted, taken, refused-is}
use Rattle.bytesteps.specs.Steps.{read_back, on_bytes, step_bytes, undo_bytes}
use Rattle.bytesteps.proofs.Sums.{no-eight}

module _ (call : List ℤ → Step → Answer × List ℤ) (b : List ℕ) (s : Step) where
  pub at-eight : s.at.depth ≡ 8 → on_bytes call b s ≡ read_back (call (map pos b) s)
  at-eight e = rw (eq-eqb s.at.depth 8 e)

  pub other-depth : (s.at.depth ≡ 8 → ⊥) → on_bytes call b s ≡ (refused 1 0 0, b)
  other-depth e = rw (ne_eqb s.at.depth 8 e)

  -- an accepted call has depth 8
  pub eight_is : (on_bytes call b s).0.number ≡ 0 → s.at.depth ≡ 8
  eight_is e = by-depth (ℕ_discrete s.at.depth 8)
    where
      by-depth : Dec (s.at.depth ≡ 8) → s.at.depth ≡ 8
      by-depth (yes q) = q
      by-depth (no q) = absurd (omega (arith, ap (λ (x : Answer × List ℕ). x.0.number) (other-depth q), e))

-- ---- a plane without negative samples
sample-plain : (d : ℕ) (z : ℤ) → sample d z ≡ true → T (non_neg z)
sample-plain d (pos n) e = tt
sample-plain d (negsuc n) e = subst T (sym e) tt

module _ (b : List ℕ) (s : Step) (g : ℕ → ℤ) where
  abbrev at : ℕ → ℕ
  at = spot s.at

  plain_at : (i : ℕ) → T (non_neg (item (map pos b) i))
  plain_at i = subst (λ (z : ℤ). T (non_neg z)) (sym (get_or-map pos b i 0)) tt

  plain-gain : Passes (sample s.at.depth) at (map pos b) g → (n : ℕ) → n ≤ 16 → (i : ℕ) → T (non_neg (item (map pos b) i +ℤ gain at g n i))
  unfolding gain
  plain-gain p zero l i = subst (λ (z : ℤ). T (non_neg z)) (sym (+ℤ_idr (item (map pos b) i))) (plain_at i)
  plain-gain p (suc n) l i = by_place (eqb (at n) i) refl (plain-gain p n (omega arith) i)
    where
      by_place : (t : Bool) → eqb (at n) i ≡ t → T (non_neg (item (map pos b) i +ℤ gain at g n i)) → T (non_neg (item (map pos b) i +ℤ cond t (g n) (gain at g n i)))
      by_place true e r = subst (λ (j : ℕ). T (non_neg (item (map pos b) j +ℤ g n))) (eqb-true (at n) i e) (sample-plain s.at.depth (item (map pos b) (at n) +ℤ g n) (p.later n l))
      by_place false e r = r

  pub gain-back : map pos (map nat_abs (gain_of (map pos b) s g).1) ≡ (gain_of (map pos b) s g).1
  gain-back = by_answer (ℕ_discrete (gain_of (map pos b) s g).0.number 0)
    where
      f : Answer
      f = front (length (map pos b)) s

      by_answer : Dec ((gain_of (map pos b) s g).0.number ≡ 0) → map pos (map nat_abs (gain_of (map pos b) s g).1) ≡ (gain_of (map pos b) s g).1
      by_answer (yes e) =
          subst (λ (q : List ℤ). map pos (map nat_abs q) ≡ q) (sym (ap (λ (x : Answer × List ℤ). x.1) (taken f (sample s.at.depth) at (map pos b) g e)))
          (bytes_back (gained at g (map pos b)) (λ i l.
          subst (λ (z : ℤ). T (non_neg z)) (sym (get_or-add_on (gain at g 16) (map pos b) i (subst (λ (n : ℕ). i < n) (length-add_on (gain at g 16) (map pos b)) l)))
          (plain-gain (accepted f (sample s.at.depth) at (map pos b) g e).1 16 (N.le_refl 16) i)))
      by_answer (no e) =
          subst (λ (q : List ℤ). map pos (map nat_abs q) ≡ q) (sym (refused-is f (sample s.at.depth) at (map pos b) g e)) (ap (map pos) (numbers-back b))

-- ---- the calls
module _ (b : List ℕ) (s : Step) where
  pub step_back : map pos (map nat_abs (step_of (map pos b) s).1) ≡ (step_of (map pos b) s).1
  step_back = gain-back b s (item (iwht s.levels))

  pub undo-back : map pos (map nat_abs (undo_of (map pos b) s).1) ≡ (undo_of (map pos b) s).1
  undo-back = gain-back b s (item (map neg_ℤ (iwht s.levels)))

  wide : (call : List ℤ → Step → Answer × List ℤ) → map pos (map nat_abs (call (map pos b) s).1) ≡ (call (map pos b) s).1 → s.at.depth ≡ 8 → call (map pos b) s ≡ ((on_bytes call b s).0, map pos (on_bytes call b s).1)
  wide call back e = (λ i. ((call (map pos b) s).0, sym back i)) ∙ ap (λ (x : Answer × List ℕ). (x.0, map pos x.1)) (sym (at-eight call b s e))

  pub step-wide : s.at.depth ≡ 8 → step_of (map pos b) s ≡ ((step_bytes b s).0, map pos (step_bytes b s).1)
  step-wide = wide step_of step_back

  pub undo-wide : s.at.depth ≡ 8 → undo_of (map pos b) s ≡ ((undo_bytes b s).0, map pos (undo_bytes b s).1)
  undo-wide = wide undo_of undo-back

  pub step-accepted : (step_bytes b s).0.number ≡ 0 → step_of (map pos b) s ≡ ((step_bytes b s).0, map pos (step_bytes b s).1)
  step-accepted e = step-wide (eight_is step_of b s e)

  pub undo-accepted : (undo_bytes b s).0.number ≡ 0 → undo_of (map pos b) s ≡ ((undo_bytes b s).0, map pos (undo_bytes b s).1)
  undo-accepted e = undo-wide (eight_is undo_of b s e)

-- ---- 8 never comes
abbrev NotEight : Answer → Type 0
NotEight a = a.number ≡ 8 → ⊥

front-not : (n : ℕ) (s : Step) → NotEight (front n s)
unfolding front
front-not n s =
    either NotEight (deep s.at) (refused 1 0 0) _ (λ t e. omega arith) (λ t.
    either NotEight (strides s.at) (refused 5 0 0) _ (λ t e. omega arith) (λ t.
    either NotEight (widths s.at) (refused 5 0 0) _ (λ t e. omega arith) (λ t.
    either NotEight (eqb (length s.levels) 16) (refused 6 1 0) _ (λ t e. omega arith) (λ t.
    either NotEight (fits s.at n) (refused 6 2 0) _ (λ t e. omega arith) (λ t.
    search-either 7 1 16 (λ k. k) (seek (number_ok (neg_ℤ (pos 262144)) (pos 262144) s.levels) 0 16) done NotEight (λ l e. omega arith) (λ e. omega arith))))))

module _ (b : List ℕ) (bytes : Bytes b) (s : Step) where
  samples-not : s.at.depth ≡ 8 → (g : ℕ → ℤ) → NotEight (samples (sample s.at.depth) (spot s.at) (map pos b) g)
  samples-not e g =
      subst (λ (d : ℕ). NotEight (samples (sample d) (spot s.at) (map pos b) g)) (sym e)
      (subst NotEight (sym (no-eight (spot s.at) b (λ k h. bytes-all b bytes (spot s.at k)) g))
      (search-either 10 2 16 (spot s.at) (seek (later_ok (sample 8) (spot s.at) (map pos b) g) 0 16) done NotEight (λ l e. omega arith) (λ e. omega arith)))

  pub wide-eight-never : s.at.depth ≡ 8 → (g : ℕ → ℤ) → (gain_of (map pos b) s g).0.number ≡ 8 → ⊥
  unfolding gaining judged
  wide-eight-never e g =
      let f = front (length (map pos b)) s in
      either NotEight (eqb f.number 0) f (samples (sample s.at.depth) (spot s.at) (map pos b) g) (λ t. front-not (length (map pos b)) s) (λ t. samples-not e g)

  bytes-not : (g : ℕ → ℤ) → (on_bytes (λ p s. gain_of p s g) b s).0.number ≡ 8 → ⊥
  bytes-not g h = by-depth (ℕ_discrete s.at.depth 8)
    where
      by-depth : Dec (s.at.depth ≡ 8) → ⊥
      by-depth (yes e) = wide-eight-never e g (ap (λ (x : Answer × List ℕ). x.0.number) (sym (at-eight (λ p s. gain_of p s g) b s e)) ∙ h)
      by-depth (no e) = omega (arith, ap (λ (x : Answer × List ℕ). x.0.number) (other-depth (λ p s. gain_of p s g) b s e), h)

  pub step-eight-never : (step_bytes b s).0.number ≡ 8 → ⊥
  step-eight-never = bytes-not (item (iwht s.levels))

  pub undo-eight-never : (undo_bytes b s).0.number ≡ 8 → ⊥
  undo-eight-never = bytes-not (item (map neg_ℤ (iwht s.levels)))
