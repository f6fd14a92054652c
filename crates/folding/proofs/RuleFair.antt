-- The rule and the one pass agree on the sums' refusal too, so the call is what the rule says. Assumes nothing.
--     settled-fair      a list without pairs has no sum
--     fair-once         one folding: the sums of the list are its own and those of the list that it leaves
--     rule-fair         all foldings
--     pass-is-fold      the whole call
use mathlib.Core.Path.{◌≡◌, refl, sym, ap, ◌∙◌}
use mathlib.Core.Bool.{Bool, true, false, ◌&&◌}
use mathlib.Core.List.{List, [], ◌∷◌}
use Prim.Native.Nat.{ℕ, zero, suc, ◌≤◌, ◌<◌, suc-le-suc}
use native.Mathlib.Nat as N
use lib.IntN.{ℤ}
use lib.ListN.{length}
use Rattle.answers.specs.Answers.{done, refused, unless, ends}
use Rattle.remain.specs.Remaining.{Entry, count, entries, marks}
use Rattle.remain.specs.Touch.{index_of}
use Rattle.keeping.specs.Range.{Area, kept}
use Rattle.folding.specs.Fold.{just, joins, join_fair, once, or_else, or_fair, then_fair, once_fair, folding_fair, folded_fair, three_of, steps_folded, levels_folded, fold_of}
use Rattle.folding.specs.Pass.{placed, one_pass, pass_fair, pass_of}
use Rattle.folding.proofs.OnePass.{Alone, none, other, past, Joined, alone, paired, joined, Settled, empty, next, once-none, paired-length, join-settled, settled-pass, rule-is-pass}

alone-fair : {e : Entry} {ts : List Entry} → Alone e ts → join_fair e ts ≡ true
unfolding join_fair
alone-fair none = refl
alone-fair (other p q) = rw (p, q)
alone-fair (past p a) = rw p (alone-fair a)

pub settled-fair : {ts : List Entry} → Settled ts → pass_fair ts ≡ true
unfolding pass_fair
settled-fair empty = refl
settled-fair (next {e} {ts} a s) = λ i. settled-fair s i && (ap (join_fair e) (settled-pass s) ∙ alone-fair a) i

fair-none : {ts : List Entry} → Settled ts → once_fair ts ≡ true
unfolding once_fair
fair-none empty = refl
fair-none (next {e} {ts} a s) = ap (λ o. or_fair o (once_fair ts) (join_fair e ts)) (once-none s) ∙ alone-fair a

-- one folding, or none left
pub data Fairly (ts : List Entry) : Type 0 where
  stays : Settled ts → Fairly ts
  goes : (us : List Entry) → once ts ≡ just us → length us < length ts → one_pass us ≡ one_pass ts → pass_fair ts ≡ (pass_fair us && once_fair ts) → Fairly ts

pub fair-once : (ts : List Entry) → Fairly ts
unfolding once once_fair one_pass pass_fair
fair-once [] = stays empty
fair-once (e ∷ ts) = go (fair-once ts) (joined e ts)
  where
    swap : (a b c : Bool) → ((a && b) && c) ≡ ((a && c) && b)
    swap true true true = refl
    swap true true false = refl
    swap true false true = refl
    swap true false false = refl
    swap false b c = refl

    go : Fairly ts → Joined e ts → Fairly (e ∷ ts)
    go (goes us p l q f) j =
        goes (e ∷ us) (ap (λ o. or_else e o (joins e ts)) p) (suc-le-suc l) (ap (λ vs. placed e vs (joins e vs)) q)
        ((λ i. f i && join_fair e (sym q i)) ∙ swap (pass_fair us) (once_fair ts) (join_fair e (one_pass us))
        ∙ ap (λ b. (pass_fair us && join_fair e (one_pass us)) && b) (sym (ap (λ o. or_fair o (once_fair ts) (join_fair e ts)) p)))
    go (stays s) (alone a n) = stays (next a s)
    go (stays s) (paired us x y) =
        goes us (ap (λ o. or_else e o (joins e ts)) (once-none s) ∙ y) (suc-le-suc (paired-length x))
        (settled-pass (join-settled s x) ∙ sym (ap (λ vs. placed e vs (joins e vs)) (settled-pass s) ∙ ap (placed e ts) y))
        ((λ i. settled-fair s i && join_fair e (settled-pass s i))
        ∙ sym (λ i. settled-fair (join-settled s x) i && or_fair (once-none s i) (once_fair ts) (join_fair e ts)))

by-rule : (n : ℕ) (ts : List Entry) → length ts ≤ n → folding_fair n ts ≡ pass_fair ts
unfolding folding_fair pass_fair
by-rule zero [] h = refl
by-rule zero (e ∷ ts) h = absurd (N.not-suc-le-zero h)
by-rule (suc n) ts h = go (fair-once ts) (by-rule n)
  where
    turn : (a b : Bool) → (a && b) ≡ (b && a)
    turn true true = refl
    turn true false = refl
    turn false true = refl
    turn false false = refl

    go : Fairly ts → ((us : List Entry) → length us ≤ n → folding_fair n us ≡ pass_fair us) → (once_fair ts && then_fair (once ts) (folding_fair n)) ≡ pass_fair ts
    go (stays s) r = (λ i. fair-none s i && then_fair (once-none s i) (folding_fair n)) ∙ sym (settled-fair s)
    go (goes us p l q f) r =
        ap (λ o. once_fair ts && then_fair o (folding_fair n)) p ∙ ap (λ b. once_fair ts && b) (r us (N.le_of_suc-le-suc (N.le_trans l h)))
        ∙ turn (once_fair ts) (pass_fair us) ∙ sym f

pub rule-fair : (ts : List Entry) → folded_fair ts ≡ pass_fair ts
unfolding folded_fair
rule-fair ts = by-rule (length ts) ts (N.le_refl (length ts))

pub pass-is-fold : (a : Area) (s : List ℕ) (l : List ℤ) (x : List ℕ) → pass_of a s l x ≡ fold_of a s l x
unfolding pass_of fold_of
pass-is-fold a s l x =
    let ts = entries s l (count s) in
    sym (λ i. ends (kept a s l (length x) (unless (rule-fair ts i) (refused 12 0 0) done)) (three_of s l x)
    (three_of (steps_folded (rule-is-pass ts i) s) (levels_folded (rule-is-pass ts i) l) (index_of a.width a.rows (marks (steps_folded (rule-is-pass ts i) s) (length (rule-is-pass ts i))))))
