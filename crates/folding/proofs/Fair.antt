-- Taken steps never give a summed residual above 2^depth - 1 in size, so the fold of such a list is not refused for it. Assumes nothing.
--     gap-in-range      what leads from one sample to another
--     join-fair         a step and its partner
--     pass-fair         the whole list
use mathlib.Core.Path.{◌≡◌, refl, sym, ap, ◌∙◌, subst}
use mathlib.Core.Bool.{Bool, true, false, cond}
use mathlib.Core.List.{List, [], ◌∷◌}
use Prim.Native.Nat.{ℕ}
use native.Mathlib.Omega.{arith}
use borrow.Author.Tests.{le-leb}
use lib.IntN.{ℤ, pos, neg_ℤ, ◌+ℤ◌, ◌-ℤ◌, +ℤ_comm, +ℤ_idl}
use lib.Signed.{◌≤ℤ◌}
use Rattle.whole.specs.Sums.{item}
use Rattle.answers.specs.Answers.{done}
use Rattle.whole.specs.Numbers.{in_range, highest}
use Rattle.whole.specs.Search.{seek}
use Rattle.whole.proofs.Linear.{lin}
use Rattle.whole.proofs.Machine.{var, ◌⊕◌, ◌⊖◌}
use Rattle.whole.proofs.Order.{≤ℤ-trans, ≤ℤ-more, gap}
use Rattle.whole.proofs.Range.{in-range-ends, ends-in-range}
use Rattle.whole.proofs.Search.{seek-all}
use Rattle.whole.proofs.Tests.{and-true}
use Rattle.lossless.specs.Step.{spot, step_of}
use Rattle.remain.specs.Remaining.{Entry}
use Rattle.keeping.specs.Steps.{step_in, steps_in}
use Rattle.lossless.specs.Replay.{Replay, more}
use Rattle.keeping.specs.Range.{Area}
use Rattle.reached.proofs.Blocks.{blocks-apart}
use Rattle.folding.specs.Fold.{meets, alike, summed, sizes, join_fair}
use Rattle.folding.specs.Pass.{one_pass, pass_fair}
use Rattle.folding.proofs.OnePass.{alike_is}
use Rattle.folding.proofs.Replayed.{first, good-last, neighbours, column_fits, same_step, pass-taken}

gap-in-range : (hi y z : ℤ) → in_range (pos 0) hi y ≡ true → in_range (pos 0) hi (y +ℤ z) ≡ true → in_range (neg_ℤ hi) hi z ≡ true
gap-in-range hi y z a b =
    let u = in-range-ends (pos 0) hi y a in
    let v = in-range-ends (pos 0) hi (y +ℤ z) b in
    ends-in-range (neg_ℤ hi) hi z (low (gap u.1) (gap v.0)) (high (gap u.0) (gap v.1))
  where
    low : ((k : ℕ) × (hi ≡ y +ℤ pos k)) → ((n : ℕ) × (y +ℤ z ≡ pos 0 +ℤ pos n)) → neg_ℤ hi ≤ℤ z
    low (k, e) (n, f) =
        subst (λ (x : ℤ). neg_ℤ hi ≤ℤ x)
        (ap (λ x. x +ℤ pos k) (+ℤ_comm (neg_ℤ hi) (pos n)) ∙ (λ i. ((sym (+ℤ_idl (pos n)) ∙ sym f) i -ℤ e i) +ℤ pos k)
        ∙ lin (((var 0 ⊕ var 1) ⊖ (var 0 ⊕ var 2)) ⊕ var 2) (var 1) (y ∷ z ∷ pos k ∷ []) tt)
        (≤ℤ-trans (≤ℤ-more (neg_ℤ hi) n) (≤ℤ-more (neg_ℤ hi +ℤ pos n) k))

    high : ((k : ℕ) × (y ≡ pos 0 +ℤ pos k)) → ((n : ℕ) × (hi ≡ (y +ℤ z) +ℤ pos n)) → z ≤ℤ hi
    high (k, e) (n, f) =
        subst (λ (x : ℤ). z ≤ℤ x)
        (ap (λ x. x +ℤ pos n) (+ℤ_comm z (pos k) ∙ ap (λ x. x +ℤ z) (sym (+ℤ_idl (pos k)) ∙ sym e)) ∙ sym f)
        (≤ℤ-trans (≤ℤ-more z k) (≤ℤ-more (z +ℤ pos k) n))

pub join-fair : (extent : Area) (p : List ℤ) (e : Entry) (ts : List Entry) (q r : List ℤ) → Replay step_of p (steps_in extent ts) q → step_of q (step_in extent e) ≡ (done, r) → join_fair e ts ≡ true
unfolding join_fair
join-fair extent p e [] q r t h = refl
join-fair extent p e (f ∷ ts) q r (more {q = a} t s) h = go (meets e f) (alike e f) refl refl (join-fair extent p e ts a)
  where
    in_size : alike e f ≡ true → sizes e.mark.depth (summed f.levels e.levels) ≡ true
    in_size y =
        let o = alike_is e f y in
        let w = (step_in extent f).at in
        let k = ap (step_of q) (sym (same_step extent e f o)) ∙ h in
        let g = summed f.levels e.levels in
        let d = e.mark.depth in
        le-leb 16 (seek (λ k. in_range (neg_ℤ (highest d)) (highest d) (item g k)) 0 16)
        (omega (
          arith,
          seek-all (λ k. in_range (neg_ℤ (highest d)) (highest d) (item g k)) 0 16
              (λ j i. subst (λ (d : ℕ). in_range (neg_ℤ (highest d)) (highest d) (item g j) ≡ true) (sym o.depths)
              (gap-in-range (highest f.mark.depth) (item a (spot w j)) (item g j)
              ((first w a q r f.levels e.levels s k).1.present j i) (good-last w a q r f.levels e.levels s k j i))),
        ))

    go : (m b : Bool) → meets e f ≡ m → alike e f ≡ b → ((r : List ℤ) → Replay step_of p (steps_in extent ts) a → step_of a (step_in extent e) ≡ (done, r) → join_fair e ts ≡ true)
        → cond m (cond b (sizes e.mark.depth (summed f.levels e.levels)) true) (join_fair e ts) ≡ true
    go true true x y rec = in_size y
    go true false x y rec = refl
    go false b x y rec =
        let n = blocks-apart extent e f (column_fits q r extent e h) (column_fits a q extent f s) x in
        let d = neighbours a q r (step_in extent f) (step_in extent e) n s h in
        rec d.0 t d.1

pub pass-fair : (extent : Area) (p : List ℤ) (ts : List Entry) (r : List ℤ) → Replay step_of p (steps_in extent ts) r → pass_fair ts ≡ true
unfolding pass_fair
pass-fair extent p [] r t = refl
pass-fair extent p (e ∷ ts) r (more {q = q} t s) = and-true (pass-fair extent p ts q t) (join-fair extent p e (one_pass ts) q r (pass-taken extent p ts q t) s)
