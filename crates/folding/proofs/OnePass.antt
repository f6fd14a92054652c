-- The rule of request 10, one pair at a time, and the one pass from the oldest step on leave the same list. Assumes nothing.
--     Settled ts         no step of ts has a partner before it
--     join-settled       a step that finds its partner in a settled list leaves a settled list: no pair arises among the steps already passed
--     pass-settled       so the one pass leaves no pair
--     pass-again         and a second pass changes nothing
--     rule-is-pass       the rule and the pass leave the same list
use mathlib.Core.Path.{◌≡◌, refl, sym, ap, ◌∙◌, subst}
use mathlib.Core.Bool.{Bool, true, false, cond, ◌&&◌}
use mathlib.Core.List.{List, [], ◌∷◌}
use Prim.Native.Nat.{ℕ, zero, suc, ◌≤◌, ◌<◌, suc-le-suc}
use native.Mathlib.Nat as N
use native.Mathlib.Omega.{arith}
use borrow.Author.Tests.{eqb-true}
use lib.Dec.{T, eqb}
use lib.IntN.{ℤ}
use lib.ListN.{length}
use Rattle.wht.specs.Wht.{fwht}
use Rattle.whole.proofs.Tests.{both}
use Rattle.remain.specs.Remaining.{Entry}
use Rattle.remain.specs.Touch.{shares}
use Rattle.reached.proofs.Blocks.{shares-swap}
use Rattle.folding.specs.Fold.{Perhaps, nothing, just, meets, alike, is_zero, summed, merged, behind, joins, or_else, once, or_stay, folding, folded}
use Rattle.folding.specs.Pass.{placed, one_pass}

-- e has no partner in ts
pub data Alone (e : Entry) : List Entry → Type 0 where
  none : Alone e []
  other : {f : Entry} {ts : List Entry} → meets e f ≡ true → alike e f ≡ false → Alone e (f ∷ ts)
  past : {f : Entry} {ts : List Entry} → meets e f ≡ false → Alone e ts → Alone e (f ∷ ts)

-- e's partner in ts, and the list that they leave
pub data Paired (e : Entry) : List Entry → List Entry → Type 0 where
  here : {f : Entry} {ts : List Entry} → meets e f ≡ true → alike e f ≡ true → Paired e (f ∷ ts) (merged e f ts)
  past : {f : Entry} {ts us : List Entry} → meets e f ≡ false → Paired e ts us → Paired e (f ∷ ts) (f ∷ us)

pub data Joined (e : Entry) (ts : List Entry) : Type 0 where
  alone : Alone e ts → joins e ts ≡ nothing → Joined e ts
  paired : (us : List Entry) → Paired e ts us → joins e ts ≡ just us → Joined e ts

pub joined : (e : Entry) (ts : List Entry) → Joined e ts
unfolding joins
joined e [] = alone none refl
joined e (f ∷ ts) = go (meets e f) (alike e f) refl refl (joined e ts)
  where
    go : (m a : Bool) → meets e f ≡ m → alike e f ≡ a → Joined e ts → Joined e (f ∷ ts)
    go true true p q j = paired (merged e f ts) (here p q) (rw (p, q))
    go true false p q j = alone (other p q) (rw (p, q))
    go false a p q (alone x y) = alone (past p x) (rw p (ap (behind f) y))
    go false a p q (paired us x y) = paired (f ∷ us) (past p x) (rw p (ap (behind f) y))

pub data Settled : List Entry → Type 0 where
  empty : Settled []
  next : {e : Entry} {ts : List Entry} → Alone e ts → Settled ts → Settled (e ∷ ts)

-- what is alone has no join
pub alone-none : {e : Entry} {ts : List Entry} → Alone e ts → joins e ts ≡ nothing
unfolding joins
alone-none none = refl
alone-none (other p q) = rw (p, q)
alone-none {e} (past {f} {ts} p a) = rw p (ap (behind f) (alone-none a))

pub once-none : {ts : List Entry} → Settled ts → once ts ≡ nothing
unfolding once
once-none empty = refl
once-none (next {e} {ts} a s) = ap (λ o. or_else e o (joins e ts)) (once-none s) ∙ alone-none a

-- ---- blocks that share a sample
pub meets-swap : (e f : Entry) → meets e f ≡ meets f e
meets-swap e f = shares-swap e.mark.row e.mark.column f.mark.row f.mark.column

pub record Same (e f : Entry) : Type 0 where
  pub depths : e.mark.depth ≡ f.mark.depth
  pub rows : e.mark.row ≡ f.mark.row
  pub columns : e.mark.column ≡ f.mark.column

pub alike_is : (e f : Entry) → alike e f ≡ true → Same e f
alike_is e f q =
    let a = both (eqb e.mark.depth f.mark.depth) (eqb e.mark.row f.mark.row && eqb e.mark.column f.mark.column) q in
    let b = both (eqb e.mark.row f.mark.row) (eqb e.mark.column f.mark.column) a.1 in
    record { depths = eqb-true _ _ a.0; rows = eqb-true _ _ b.0; columns = eqb-true _ _ b.1 }

-- a step that shares no sample with e shares none with a step on e's block
meets-alike : (e f g : Entry) → meets e g ≡ false → alike e f ≡ true → meets g f ≡ false
meets-alike e f g m q =
    let s = alike_is e f q in
    sym (λ i. shares g.mark.row g.mark.column (s.rows i) (s.columns i)) ∙ sym (meets-swap e g) ∙ m

not-both : {b : Bool} → b ≡ true → b ≡ false → ⊥
not-both p q = subst T (sym p ∙ q) tt

-- ---- settled lists
alone-levels : {f : Entry} {ts : List Entry} (l : List ℤ) → Alone f ts → Alone (record { mark = f.mark; levels = l }) ts
alone-levels l none = none
alone-levels l (other p q) = other p q
alone-levels l (past p a) = past p (alone-levels l a)

alone-merged : (e f g : Entry) (ts : List Entry) → meets g f ≡ false → Alone g ts → Alone g (merged e f ts)
alone-merged e f g ts m a = go (is_zero (summed f.levels e.levels))
  where
    go : (b : Bool) → Alone g (cond b ts (record { mark = f.mark; levels = fwht (summed f.levels e.levels) } ∷ ts))
    go true = a
    go false = past m a

alone-keeps : {e g : Entry} {ts us : List Entry} → meets e g ≡ false → Alone g ts → Paired e ts us → Alone g us
alone-keeps m none x = elim x [ ]
alone-keeps {e} {g} m (other p q) (here {f} {ts} x y) = absurd (not-both p (meets-alike e f g m y))
alone-keeps {e} {g} m (past p a) (here {f} {ts} x y) = alone-merged e f g ts (meets-alike e f g m y) a
alone-keeps m (other p q) (past x y) = other p q
alone-keeps m (past p a) (past x y) = past p (alone-keeps m a y)

settled-merged : (e f : Entry) (ts : List Entry) → Alone f ts → Settled ts → Settled (merged e f ts)
settled-merged e f ts a s = go (is_zero (summed f.levels e.levels))
  where
    go : (b : Bool) → Settled (cond b ts (record { mark = f.mark; levels = fwht (summed f.levels e.levels) } ∷ ts))
    go true = s
    go false = next (alone-levels (fwht (summed f.levels e.levels)) a) s

pub join-settled : {e : Entry} {ts us : List Entry} → Settled ts → Paired e ts us → Settled us
join-settled empty x = elim x [ ]
join-settled {e} (next a s) (here {f} {ts} x y) = settled-merged e f ts a s
join-settled (next a s) (past x y) = next (alone-keeps x a y) (join-settled s y)

pub pass-settled : (ts : List Entry) → Settled (one_pass ts)
unfolding one_pass
pass-settled [] = empty
pass-settled (e ∷ ts) = go (joined e (one_pass ts)) (pass-settled ts)
  where
    go : Joined e (one_pass ts) → Settled (one_pass ts) → Settled (placed e (one_pass ts) (joins e (one_pass ts)))
    go (alone a n) s = subst (λ (o : Perhaps (List Entry)). Settled (placed e (one_pass ts) o)) (sym n) (next a s)
    go (paired us p q) s = subst (λ (o : Perhaps (List Entry)). Settled (placed e (one_pass ts) o)) (sym q) (join-settled s p)

-- ---- the rule
pub settled-pass : {ts : List Entry} → Settled ts → one_pass ts ≡ ts
unfolding one_pass
settled-pass empty = refl
settled-pass (next {e} {ts} a s) =
    ap (λ us. placed e us (joins e us)) (settled-pass s) ∙ ap (placed e ts) (alone-none a)

-- folding again changes nothing
pub pass-again : (ts : List Entry) → one_pass (one_pass ts) ≡ one_pass ts
pass-again ts = settled-pass (pass-settled ts)

-- one folding, or none left
pub data Once (ts : List Entry) : Type 0 where
  left : Settled ts → once ts ≡ nothing → Once ts
  folds : (us : List Entry) → once ts ≡ just us → one_pass us ≡ one_pass ts → length us < length ts → Once ts

pub paired-length : {e : Entry} {ts us : List Entry} → Paired e ts us → length us ≤ length ts
paired-length {e} (here {f} {ts} x y) = go (is_zero (summed f.levels e.levels))
  where
    go : (b : Bool) → length (cond b ts (record { mark = f.mark; levels = fwht (summed f.levels e.levels) } ∷ ts)) ≤ suc (length ts)
    go true = omega arith
    go false = omega arith
paired-length (past x y) = suc-le-suc (paired-length y)

pub one : (ts : List Entry) → Once ts
unfolding once one_pass
one [] = left empty refl
one (e ∷ ts) = go (one ts) (joined e ts)
  where
    go : Once ts → Joined e ts → Once (e ∷ ts)
    go (folds us p q l) j = folds (e ∷ us) (ap (λ o. or_else e o (joins e ts)) p) (ap (λ vs. placed e vs (joins e vs)) q) (suc-le-suc l)
    go (left s p) (alone a n) = left (next a s) (ap (λ o. or_else e o (joins e ts)) p ∙ n)
    go (left s p) (paired us x y) =
        folds us (ap (λ o. or_else e o (joins e ts)) p ∙ y)
        (settled-pass (join-settled s x) ∙ sym (ap (λ vs. placed e vs (joins e vs)) (settled-pass s) ∙ ap (placed e ts) y))
        (suc-le-suc (paired-length x))

by-rule : (n : ℕ) (ts : List Entry) → length ts ≤ n → folding n ts ≡ one_pass ts
unfolding folding one_pass
by-rule zero [] h = refl
by-rule zero (e ∷ ts) h = absurd (N.not-suc-le-zero h)
by-rule (suc n) ts h = go (one ts) (by-rule n)
  where
    go : Once ts → ((us : List Entry) → length us ≤ n → folding n us ≡ one_pass us) → or_stay (once ts) ts (folding n) ≡ one_pass ts
    go (left s p) r = ap (λ o. or_stay o ts (folding n)) p ∙ sym (settled-pass s)
    go (folds us p q l) r = ap (λ o. or_stay o ts (folding n)) p ∙ r us (N.le_of_suc-le-suc (N.le_trans l h)) ∙ q

pub rule-is-pass : (ts : List Entry) → folded ts ≡ one_pass ts
unfolding folded
rule-is-pass ts = by-rule (length ts) ts (N.le_refl (length ts))
