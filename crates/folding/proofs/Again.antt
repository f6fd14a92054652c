-- Folding again changes nothing, whatever the slices hold. Assumes nothing.
--     steps-same, levels-same     a list that is written over itself
--     again                       an accepted fold, folded
--     fold-twice                  any fold: the second call has the answer of the first and leaves the slices as they are
--     fold-accepts                a history that calls have led to: its fold is never refused
use mathlib.Core.Path.{◌≡◌, refl, sym, ap, ◌∙◌}
use mathlib.Core.Bool.{Bool, true, false}
use mathlib.Core.List.{List, [], ◌∷◌, ◌++◌}
use Prim.Native.Nat.{ℕ, zero, suc, ◌+◌, ◌*◌, ◌≤◌, ◌<◌}
use native.Mathlib.Nat as N
use native.Mathlib.Decide.{ℕ_discrete}
use native.Mathlib.Omega.{arith}
use borrow.Author.Tests.{eqb-true}
use lib.Dec.{eqb}
use lib.IntN.{ℤ}
use lib.ListN.{length, set, take, drop, take-append-drop}
use lib.Seq.{set-get_or}
use Rattle.answers.specs.declared.Answer.{Answer}
use Rattle.answers.specs.Answers.{done, refused, unless, ends}
use Rattle.answers.proofs.Verdicts.{opens, passed}
use Rattle.whole.proofs.Lent.{part_count}
use Rattle.remain.specs.Remaining.{mark, Entry, count, number_at, word, levels_at, entries, marks, put_mark, put_on}
use Rattle.remain.specs.Touch.{index_of}
use Rattle.keeping.specs.Range.{Area, shaped, sound}
use Rattle.history.specs.Calls.{Lent}
use Rattle.keeping.specs.Bounds.{Keeping}
use Rattle.keeping.proofs.Facts.{sound-is}
use Rattle.folding.specs.Fold.{steps_put, steps_folded, levels_folded, Folded, three_of, fold_of}
use Rattle.folding.specs.Pass.{one_pass, pass_fair, fold_verdict, pass_of}
use Rattle.reached.proofs.Entries.{put_is}
use Rattle.folding.proofs.Fair.{pass-fair}
use Rattle.folding.proofs.FoldCall.{count-folded}
use Rattle.folding.proofs.OnePass.{Alone, none, other, past, Settled, empty, next, pass-settled, settled-pass}
use Rattle.folding.proofs.RuleFair.{settled-fair, pass-is-fold}
use Rattle.reached.specs.Holds.{Good}
use Rattle.reached.proofs.Always.{with-index, index-long}
use Rattle.reached.proofs.Calls.{kept-make}
use Rattle.folding.proofs.Folds.{numbered, entries-length, entries-sound, pass-sound, pass-most, keeping-folded}

-- ---- a list written over itself
steps-same : (s : List ℕ) (l : List ℤ) (n : ℕ) → ((j : ℕ) → j < n → number_at s j ≡ j + 1) → steps_put (entries s l n) s ≡ s
steps-same s l zero f = refl
steps-same s l (suc n) f =
    let b = 4 * n + 1 in
    let e = entries-length s l n in
    (λ i. put_mark (e i) (mark (e i + 1) (word s n 1) (word s n 2) (word s n 3)) (steps-same s l n (λ j h. f j (omega arith)) i))
    ∙ ap (λ (x : List ℕ). set (set (set x (b + 1) (word s n 1)) (b + 2) (word s n 2)) (b + 3) (word s n 3)) (ap (set s b) (sym (f n (N.le_refl (suc n)))) ∙ set-get_or s b 0)
    ∙ ap (λ (x : List ℕ). set (set x (b + 2) (word s n 2)) (b + 3) (word s n 3)) (set-get_or s (b + 1) 0)
    ∙ ap (λ (x : List ℕ). set x (b + 3) (word s n 3)) (set-get_or s (b + 2) 0)
    ∙ set-get_or s (b + 3) 0

levels-same : (s : List ℕ) (l : List ℤ) (n : ℕ) → 16 * n ≤ length l → levels_folded (entries s l n) l ≡ l
levels-same s l zero h = refl
levels-same s l (suc n) h =
    let a = 16 * n in
    let fit : a + 16 ≤ length l = omega arith in
    (λ i. put_on (16 * entries-length s l n i) (levels_at l n) 16 (levels-same s l n (omega arith) i))
    ∙ put_is n l (levels_at l n) (part_count l a 16 fit) fit
    ∙ ap (λ (t : List ℤ). take a l ++ t) (take-append-drop 16 (drop a l)) ∙ take-append-drop a l

-- ---- the numbers of the folded steps
abbrev first_number : List Entry → ℕ
first_number [] = 0
first_number (e ∷ ts) = e.mark.number

abbrev tail_of : List Entry → List Entry
tail_of [] = []
tail_of (e ∷ ts) = ts

numbers-from : (s : List ℕ) (l : List ℤ) (us : List Entry) (n : ℕ) → n ≡ length us → entries s l n ≡ numbered us → (j : ℕ) → j < n → number_at s j ≡ j + 1
numbers-from s l us zero e f j h = absurd (N.not-suc-le-zero h)
numbers-from s l [] (suc n) e f j h = absurd (omega arith)
numbers-from s l (u ∷ us) (suc n) e f j h =
    let m : n ≡ length us = omega arith in
    go m (ℕ_discrete j n) (numbers-from s l us n m (ap tail_of f) j)
  where
    less : (j ≡ n → ⊥) → j < n
    less q = omega arith

    go : n ≡ length us → Dec (j ≡ n) → (j < n → number_at s j ≡ j + 1) → number_at s j ≡ j + 1
    go m (yes q) r = ap (number_at s) q ∙ ap first_number f ∙ ap (λ (i : ℕ). i + 1) (sym (q ∙ m))
    go m (no q) r = r (less q)

-- ---- no pair is left, whatever the numbers
alone-numbered : {e : Entry} {ts : List Entry} (n : ℕ) (v : List ℤ) → Alone e ts → Alone (record { mark = mark n e.mark.depth e.mark.row e.mark.column; levels = v }) (numbered ts)
alone-numbered n v none = none
alone-numbered n v (other p q) = other p q
alone-numbered n v (past p a) = past p (alone-numbered n v a)

settled-numbered : {ts : List Entry} → Settled ts → Settled (numbered ts)
settled-numbered empty = empty
settled-numbered (next {e} {ts} a s) = next (alone-numbered (length ts + 1) e.levels a) (settled-numbered s)

-- ---- an accepted fold, folded
module _ {a : Area} {s : List ℕ} {l : List ℤ} {k : ℕ} (q : Keeping a s l k) (fair : pass_fair (entries s l (count s)) ≡ true) where
  abbrev us : List Entry
  us = one_pass (entries s l (count s))

  abbrev s₁ : List ℕ
  s₁ = steps_folded us s

  abbrev l₁ : List ℤ
  l₁ = levels_folded us l

  abbrev x₁ : List ℕ
  x₁ = index_of a.width a.rows (marks s₁ (length us))

  pub again : pass_of a s₁ l₁ x₁ ≡ (done, three_of s₁ l₁ x₁)
  unfolding pass_of
  again =
      let few : length us ≤ 4096 = N.le_trans (pass-most (entries s l (count s))) (N.le_trans (N.le_of_eq (entries-length s l (count s))) q.most) in
      let w = keeping-folded q (pass-sound (entries-sound q (count s) (N.le_refl (count s))) fair) few in
      let n = count-folded us s (omega (arith, q.steps)) in
      let ts = entries s₁ l₁ (count s₁) in
      let t : ts ≡ numbered us = ap (entries s₁ l₁) n ∙ w.1 in
      let st = settled-numbered (pass-settled (entries s l (count s))) in
      let o : one_pass ts ≡ ts = ap one_pass t ∙ settled-pass st ∙ sym t in
      let c = entries-length s₁ l₁ (count s₁) in
      let y : steps_folded (one_pass ts) s₁ ≡ s₁ =
      ap (λ (v : List Entry). steps_folded v s₁) o ∙ (λ i. set (steps-same s₁ l₁ (count s₁) (numbers-from s₁ l₁ us (count s₁) n t) i) 0 (c i)) ∙ set-get_or s₁ 0 0 in
      let z : levels_folded (one_pass ts) l₁ ≡ l₁ = ap (λ (v : List Entry). levels_folded v l₁) o ∙ levels-same s₁ l₁ (count s₁) (omega (arith, w.0.levels, n)) in
      let m : length (one_pass ts) ≡ length us = ap length o ∙ c ∙ n in
      let kk = with-index (length x₁) w.0 (index-long a (marks s₁ (length us)) refl) in
      let v : fold_verdict a s₁ l₁ (length x₁) ≡ done = kept-make kk (unless (pass_fair ts) (refused 12 0 0) done) ∙ opens (refused 12 0 0) done (ap pass_fair t ∙ settled-fair st) in
      λ i. ends (v i) (three_of s₁ l₁ x₁) (three_of (y i) (z i) (index_of a.width a.rows (marks (y i) (m i))))

-- ---- any fold
module _ (a : Area) (s : List ℕ) (l : List ℤ) (x : List ℕ) where
  abbrev verdict : Answer
  verdict = fold_verdict a s l (length x)

  abbrev work : Folded
  work =
      let us = one_pass (entries s l (count s)) in
      three_of (steps_folded us s) (levels_folded us l) (index_of a.width a.rows (marks (steps_folded us s) (length us)))

  abbrev passes : Folded → Answer × Folded
  passes f = pass_of a f.steps f.levels f.index

  twice : passes (pass_of a s l x).1 ≡ pass_of a s l x
  unfolding pass_of
  twice = go (eqb verdict.number 0) refl
    where
      go : (b : Bool) → eqb verdict.number 0 ≡ b → passes (unless b (three_of s l x) work) ≡ (verdict, unless b (three_of s l x) work)
      go false e = ap (λ b. (verdict, unless b (three_of s l x) work)) e
      go true e =
          let rest = unless (pass_fair (entries s l (count s))) (refused 12 0 0) done in
          let t = passed (shaped a) 4 0 0 (unless (sound a s l (length x)) (refused 12 0 0) rest) (eqb-true verdict.number 0 e) in
          let u = passed (sound a s l (length x)) 11 0 0 rest t.1 in
          let v = passed (pass_fair (entries s l (count s))) 11 0 0 done u.1 in
          let k = sound-is a s l (length x) t.0 u.0 in
          again k v.0 ∙ ap (λ (r : Answer). (r, work)) (sym (kept-make k rest ∙ opens (refused 12 0 0) done v.0))

  pub fold-twice : let f = (fold_of a s l x).1 in fold_of a f.steps f.levels f.index ≡ fold_of a s l x
  fold-twice =
      let p = pass-is-fold a s l x in
      let f = (fold_of a s l x).1 in
      sym (pass-is-fold a f.steps f.levels f.index) ∙ ap (λ (r : Answer × Folded). passes r.1) (sym p) ∙ twice ∙ p

-- a history that calls have led to
pub fold-accepts : (a : Area) (base : List ℤ) (m : Lent) → Good a base m → (fold_of a m.steps m.levels m.index).0 ≡ done
unfolding pass_of
fold-accepts a base m g =
    let ts = entries m.steps m.levels (count m.steps) in
    ap (λ (r : Answer × Folded). r.0) (sym (pass-is-fold a m.steps m.levels m.index))
    ∙ kept-make g.keeping (unless (pass_fair ts) (refused 12 0 0) done) ∙ opens (refused 12 0 0) done (pass-fair a base ts m.plane g.holds)
