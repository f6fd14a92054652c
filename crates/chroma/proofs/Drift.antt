-- A pair turned and turned back with the sine negated, from document 02, section 11. Over all whole numbers, and over two calls. Assumes nothing.
--     round-near          256 times a rounded number is within 128 of the number
--     twice-rounded       the drift of one member, by the errors of the three roundings on its way
--     drift-u, drift-v    if none of the four numbers was clamped, either member's drift is at most the bound
--     back-taken          the call that turns back is accepted where the first was
--     calls-drift         the bound for pair i of two such calls
use mathlib.Core.Path.{◌≡◌, sym, ap, ◌∙◌, subst}
use mathlib.Core.Bool.{true, ◌&&◌}
use mathlib.Core.List.{List, [], ◌∷◌}
use Prim.Native.Nat.{ℕ, zero, suc, ◌+◌, ◌*◌, ◌-◌, ◌/◌, ◌^◌, ◌≤◌, ◌<◌}
use native.Mathlib.Nat as N
use native.Mathlib.Omega.{arith}
use borrow.Author.Tests.{eq-eqb}
use lib.Dec.{ltb, ltb→lt, nltb→le, leb}
use lib.IntN.{ℤ, pos, negsuc, neg_ℤ, nat_abs, ◌+ℤ◌, ◌-ℤ◌, ◌*ℤ◌, *ℤ_comm, +ℤ_comm, neg_ℤ-neg_ℤ, neg_ℤ-+ℤ}
use lib.ListN.{length}
use Rattle.whole.specs.Sums.{item}
use Rattle.whole.specs.Numbers.{in_range, clamp}
use Rattle.whole.proofs.Ring.{distr, distl, neg-mul, mul-neg, *ℤ-assoc}
use Rattle.whole.proofs.Machine.{var, con, ◌⊕◌, ◌⊖◌, ◌⊗◌}
use Rattle.whole.proofs.Linear.{lin}
use Rattle.whole.proofs.Tests.{cond-case, and-true}
use Rattle.whole.proofs.Size.{abs-add, abs_neg, abs-mul}
use Rattle.whole.proofs.Order.{range-low}
use Rattle.whole.proofs.Range.{clamp-in-range, highest-size, size-in-range}
use Rattle.whole.proofs.Search.{seek-all}
use Rattle.whole.proofs.Fill.{length-tab}
use Rattle.answers.specs.Answers.{done, refused}
use Rattle.answers.proofs.Verdicts.{passed, opens, search-opens, taken}
use Rattle.chroma.specs.Chroma.{low, high, round256, turn_u, turn_v, turned, pair_ok, angle_ok, shorter_of, bad_of, first_bad, verdict, cctx_of}
use Rattle.chroma.specs.Drift.{back_u_of, back_v, back_of, NoneClamped, drift, drift_bound}
use Rattle.chroma.proofs.Verdict.{Accepted, accepted}
use Rattle.chroma.proofs.Outcomes.{Takes, pair-turned}

-- r is z / 256 to within a half
abbrev Near : ℤ → ℤ → Type 0
Near z r = nat_abs (r *ℤ pos 256 -ℤ z) ≤ 128

-- ---- one rounding
apart : (a b B : ℕ) → a ≤ b + B → b ≤ a + B → nat_abs (pos a -ℤ pos b) ≤ B
apart a zero B h k = omega arith
apart a (suc b) B h k =
    cond-case (ltb a (suc b)) (negsuc (suc b - suc a)) (pos (a - suc b)) (λ z. nat_abs z ≤ B)
    (λ t. omega (arith, ltb→lt a (suc b) t))
    (λ t. omega (arith, nltb→le a (suc b) t))

pub round-near : (z : ℤ) → Near z (round256 z)
unfolding round256
round-near (pos n) = apart ((n + 128) / 256 * 256) n 128 (omega arith) (omega arith)
round-near (negsuc n) =
    let q = (suc n + 128) / 256 in
    let h = apart (q * 256) (suc n) 128 (omega arith) (omega arith) in
    subst (λ (y : ℤ). nat_abs y ≤ 128) (neg_ℤ-+ℤ (pos (q * 256)) (negsuc n) ∙ ap (λ y. y -ℤ negsuc n) (sym (neg-mul (pos q) (pos 256)))) (omega (arith, abs_neg (pos (q * 256) -ℤ pos (suc n))))

-- ---- two of them
cross : (y k l : ℤ) → y *ℤ k *ℤ l ≡ y *ℤ l *ℤ k
cross y k l = *ℤ-assoc y k l ∙ ap (λ z. y *ℤ z) (*ℤ_comm k l) ∙ sym (*ℤ-assoc y l k)

times : (p a k : ℤ) → (p *ℤ pos 256 -ℤ a) *ℤ k ≡ p *ℤ k *ℤ pos 256 -ℤ a *ℤ k
times p a k = rw (distr (p *ℤ pos 256) (neg_ℤ a) k, cross p (pos 256) k, neg-mul a k)

part : (k e : ℤ) → nat_abs e ≤ 128 → nat_abs (e *ℤ k) ≤ 128 * nat_abs k
part k e h = N.le_trans (N.le_of_eq (abs-mul e k)) (N.mul-le-mul h (N.le_refl (nat_abs k)))

module _ (s c x y : ℤ) where
  -- the pair x, y turned, not rounded
  abbrev a : ℤ
  a = x *ℤ c -ℤ y *ℤ s

  abbrev b : ℤ
  b = x *ℤ s +ℤ y *ℤ c

  -- turned back, it is (sin² + cos²) times the number
  turned-back : a *ℤ c +ℤ b *ℤ s ≡ x *ℤ (s *ℤ s +ℤ c *ℤ c)
  turned-back =
      rw (distr (x *ℤ c) (neg_ℤ (y *ℤ s)) c, neg-mul (y *ℤ s) c, cross y s c, distr (x *ℤ s) (y *ℤ c) s, distl x (s *ℤ s) (c *ℤ c), *ℤ-assoc x s s, *ℤ-assoc x c c)
      (lin ((var 1 ⊖ var 2) ⊕ (var 0 ⊕ var 2)) (var 0 ⊕ var 1) ((x *ℤ (s *ℤ s)) ∷ (x *ℤ (c *ℤ c)) ∷ (y *ℤ c *ℤ s) ∷ []) tt)

  module _ (p q r : ℤ) where
    -- the drift is what the three roundings add
    parts : drift s c x r ≡ (r *ℤ pos 256 -ℤ (p *ℤ c +ℤ q *ℤ s)) *ℤ pos 256 +ℤ ((p *ℤ pos 256 -ℤ a) *ℤ c +ℤ (q *ℤ pos 256 -ℤ b) *ℤ s)
    parts =
        rw (times p a c, times q b s, sym turned-back)
        (lin (var 0 ⊗ con (pos 65536) ⊖ (var 3 ⊕ var 4)) ((var 0 ⊗ con (pos 256) ⊖ (var 1 ⊕ var 2)) ⊗ con (pos 256) ⊕ ((var 1 ⊗ con (pos 256) ⊖ var 3) ⊕ (var 2 ⊗ con (pos 256) ⊖ var 4)))
        (r ∷ (p *ℤ c) ∷ (q *ℤ s) ∷ (a *ℤ c) ∷ (b *ℤ s) ∷ []) tt)

    pub twice-rounded : Near a p → Near b q → Near (p *ℤ c +ℤ q *ℤ s) r → nat_abs (drift s c x r) ≤ drift_bound s c
    twice-rounded h k l =
        let e₁ = (p *ℤ pos 256 -ℤ a) *ℤ c in
        let e₂ = (q *ℤ pos 256 -ℤ b) *ℤ s in
        let e₃ = r *ℤ pos 256 -ℤ (p *ℤ c +ℤ q *ℤ s) in
        rw parts (omega (arith, abs-add (e₃ *ℤ pos 256) (e₁ +ℤ e₂), abs-add e₁ e₂, abs-mul e₃ (pos 256), part c (p *ℤ pos 256 -ℤ a) h, part s (q *ℤ pos 256 -ℤ b) k, l))

-- ---- a pair, there and back
minus-back : (x y s : ℤ) → x -ℤ y *ℤ neg_ℤ s ≡ x +ℤ y *ℤ s
minus-back x y s = rw (mul-neg y s, neg_ℤ-neg_ℤ (y *ℤ s))

square-back : (s : ℤ) → neg_ℤ s *ℤ neg_ℤ s ≡ s *ℤ s
square-back s = rw (neg-mul s (neg_ℤ s), mul-neg s s, neg_ℤ-neg_ℤ (s *ℤ s))

module _ (lo hi s c u v : ℤ) (free : NoneClamped lo hi s c u v) where
  abbrev u' : ℤ
  u' = turn_u lo hi s c u v

  abbrev v' : ℤ
  v' = turn_v lo hi s c u v

  abbrev u'' : ℤ
  u'' = back_u_of lo hi s c u v

  abbrev v'' : ℤ
  v'' = back_v lo hi s c u v

  near-u : Near (u *ℤ c -ℤ v *ℤ s) u'
  near-u = rw free.0.0 (round-near (u *ℤ c -ℤ v *ℤ s))

  near-v : Near (u *ℤ s +ℤ v *ℤ c) v'
  near-v = rw free.0.1 (round-near (u *ℤ s +ℤ v *ℤ c))

  back_u : Near (u' *ℤ c +ℤ v' *ℤ s) u''
  back_u = subst (λ (z : ℤ). Near z u'') (minus-back (u' *ℤ c) v' s) (rw free.1.0 (round-near (u' *ℤ c -ℤ v' *ℤ neg_ℤ s)))

  back-v : Near (v' *ℤ c +ℤ u' *ℤ neg_ℤ s) v''
  back-v = subst (λ (z : ℤ). Near z v'') (+ℤ_comm (u' *ℤ neg_ℤ s) (v' *ℤ c)) (rw free.1.1 (round-near (u' *ℤ neg_ℤ s +ℤ v' *ℤ c)))

  pub drift-u : nat_abs (drift s c u u'') ≤ drift_bound s c
  drift-u = twice-rounded s c u v u' v' u'' near-u near-v back_u

  -- the second member is the first of the pair exchanged and the sine negated
  pub drift-v : nat_abs (drift s c v v'') ≤ drift_bound s c
  drift-v =
      let first = subst (λ (z : ℤ). Near z v') (+ℤ_comm (u *ℤ s) (v *ℤ c) ∙ sym (minus-back (v *ℤ c) u s)) near-v in
      let second = subst (λ (z : ℤ). Near z u') (+ℤ_comm (u *ℤ c) (neg_ℤ (v *ℤ s)) ∙ ap (λ z. z +ℤ u *ℤ c) (sym (mul-neg v s))) near-u in
      let exchanged = twice-rounded (neg_ℤ s) c v u v' u' v'' first second back-v in
      subst (λ (z : ℤ). nat_abs (v'' *ℤ pos 65536 -ℤ v *ℤ (z +ℤ c *ℤ c)) ≤ drift_bound s c) (square-back s) (omega (arith, exchanged, abs_neg s))

-- ---- two calls
-- where no refusal applies, the answer is Done
fine : (u v : List ℤ) (s c : ℤ) (depth : ℕ) → (leb 8 depth && leb depth 12) ≡ true → length u ≡ length v → ((k : ℕ) → k < length u → pair_ok (low depth) (high depth) u v k ≡ true) → angle_ok s ≡ true → angle_ok c ≡ true → Takes s c depth u v
unfolding verdict cctx_of
fine u v s c depth d e f g h =
    ap (λ a. a.number) (opens (refused 1 0 0) _ d ∙ opens (refused 6 (shorter_of (length u) (length v)) 0) _ (eq-eqb (length u) (length v) e)
    ∙ search-opens 7 (bad_of (low depth) (high depth) u (first_bad u v depth)) (length u) (λ k. k) (first_bad u v depth) _ (omega (arith, seek-all (pair_ok (low depth) (high depth) u v) 0 (length u) (λ k l. f k (omega arith))))
    ∙ opens (refused 9 0 0) _ g ∙ opens (refused 9 0 1) done h)

clamped-ok : (depth : ℕ) (w z : ℤ) → w ≡ clamp (low depth) (high depth) z → in_range (low depth) (high depth) w ≡ true
clamped-ok depth w z e = rw e (clamp-in-range (low depth) (high depth) z (range-low (2 ^ (depth + 7)) (high depth) (highest-size (depth + 7))))

module _ (s c : ℤ) (depth : ℕ) (u v : List ℤ) (first : Takes s c depth u v) where
  abbrev there : List ℤ × List ℤ
  there = (cctx_of u v s c depth).1

  lengths : (length there.0 ≡ length u) × (length there.1 ≡ length v)
  unfolding cctx_of
  lengths =
      let w = taken {A = List ℤ × List ℤ} (verdict u v s c depth) (u, v) (turned (low depth) (high depth) s c u v) first in
      (ap (λ r. length r.1.0) w ∙ length-tab (length u) _, ap (λ r. length r.1.1) w ∙ length-tab (length v) _)

  depth-ok : (leb 8 depth && leb depth 12) ≡ true
  unfolding verdict cctx_of
  depth-ok = (passed _ _ _ _ _ first).0

  judged : Accepted u v s c depth
  unfolding cctx_of
  judged = accepted u v s c depth first

  in-range : (k : ℕ) → k < length u → pair_ok (low depth) (high depth) there.0 there.1 k ≡ true
  in-range k l =
      let p = pair-turned s c depth u v first k l in
      and-true (clamped-ok depth (item there.0 k) _ p.0) (clamped-ok depth (item there.1 k) _ p.1)

  -- the call that turns back is accepted where the first was
  pub back-taken : (back_of u v s c depth).0.number ≡ 0
  back-taken =
      fine there.0 there.1 (neg_ℤ s) c depth depth-ok (lengths.0 ∙ judged.same ∙ sym lengths.1) (λ k l. in-range k (omega (arith, lengths.0)))
      (size-in-range 255 (neg_ℤ s) (omega (arith, judged.sine, abs_neg s))) (size-in-range 255 c judged.cosine)

  pub calls-drift : (i : ℕ) → i < length u → NoneClamped (low depth) (high depth) s c (item u i) (item v i)
      → (nat_abs (drift s c (item u i) (item (back_of u v s c depth).1.0 i)) ≤ drift_bound s c) × (nat_abs (drift s c (item v i) (item (back_of u v s c depth).1.1 i)) ≤ drift_bound s c)
  calls-drift i l free =
      let p = pair-turned s c depth u v first i l in
      let m : i < length there.0 = omega (arith, lengths.0) in
      let q = pair-turned (neg_ℤ s) c depth there.0 there.1 back-taken i m in
      (rw (q.0, p.0, p.1) (drift-u (low depth) (high depth) s c (item u i) (item v i) free), rw (q.1, p.0, p.1) (drift-v (low depth) (high depth) s c (item u i) (item v i) free))
