-- The two definitions of the inverse DCT agree: the run of a table (Calls) and the document's own steps (Document), for every list, refusals and places included. Assumes nothing.
--     coded, codes            a step as three numbers of a table
--     same4 .. same64         the tables are the codes of the document's steps
--     turn-agrees, flip-agrees    a butterfly
--     run-agrees              a run that stops at the first value that does not fit, and the log of all values
--     agree                   the whole call
use mathlib.Core.Path.{◌≡◌, refl, sym, ap, ◌∙◌, subst}
use mathlib.Core.Bool.{Bool, true, false, not, ◌&&◌, cond}
use mathlib.Core.List.{List, [], ◌∷◌, ◌++◌}
use Prim.Native.Nat.{ℕ, zero, suc, ◌+◌, ◌*◌, ◌-◌, ◌^◌, ◌<◌}
use native.Mathlib.Nat as N
use native.Mathlib.Numerals.{add-one}
use native.Mathlib.Omega.{arith}
use borrow.Author.Tests.{eq-eqb, ne_eqb, eqb-true, lt-ltb, le-ltb}
use lib.Dec.{T, eqb, leb, ltb, ltb→lt, eqb→eq}
use lib.IntN.{ℤ, pos, ◌+ℤ◌, ◌-ℤ◌}
use lib.ListN.{length, get_or, set, length-set}
use lib.Seq.{get_or-set_same, get_or-set_other, set-set, set_comm, lt-length-set}
use Rattle.answers.specs.declared.Answer.{Answer}
use Rattle.answers.specs.Answers.{done, refused, unless, searched, ends}
use Rattle.whole.specs.Numbers.{in_range}
use Rattle.whole.specs.Search.{seek}
use Rattle.whole.specs.Sums.{tab, item}
use Rattle.whole.proofs.Fill.{length-tab, tab-same}
use Rattle.whole.proofs.Tests.{and_left, and_right, below, below_at}
use Rattle.whole.proofs.Linear.{eq_z, eq_z→eq}
use Rattle.av1.specs.Steps.{cos_of, sin_of, turn_x, turn_y, turn_of, sums_of, step_of, onward, goes}
use Rattle.av1.specs.Tables.{angles4, angles8, angles16, angles32, angles64, angles_of, from4, from8, from16, from32, from64, ops4, ops8, ops16, ops32, ops64, length_ok, from_of, ops_of, count_of}
use Rattle.av1.specs.Calls.{low, high, number_ok, permuted, settled, ran, front, ran_of, dct_of}
use Rattle.av1_agree.specs.Document.{cos128, sin128, brev, Step, B, H, steps, after, saved, runs, log, first_out, reordered, processed, by_document}
use Rattle.av1_agree.proofs.Logged.{Same, inputs-agree, ends_same}

-- ---- the tables
-- the number of an angle in a list of angles, from 1 on
abbrev number_in : List ℕ → ℕ → ℕ
number_in [] g = 1
number_in (y ∷ ys) g = cond (eqb y g) 1 (suc (number_in ys g))

abbrev coded : List ℕ → Step → List ℕ
coded xs (B a b g false) = a ∷ b ∷ number_in xs g ∷ []
coded xs (B a b g true) = a ∷ b ∷ (number_in xs g + 128) ∷ []
coded xs (H a b false) = a ∷ b ∷ 0 ∷ []
coded xs (H a b true) = b ∷ a ∷ 0 ∷ []

abbrev codes : List ℕ → List Step → List ℕ
codes xs [] = []
codes xs (s ∷ ss) = coded xs s ++ codes xs ss

abbrev used4 : List ℕ
used4 = 32 ∷ 48 ∷ []

pub same4 : codes used4 (steps 2) ≡ ops4
same4 = refl

abbrev used8 : List ℕ
used8 = 24 ∷ 32 ∷ 48 ∷ 56 ∷ []

pub same8 : codes used8 (steps 3) ≡ ops8
same8 = refl

abbrev used16 : List ℕ
used16 = 12 ∷ 24 ∷ 28 ∷ 32 ∷ 44 ∷ 48 ∷ 56 ∷ 60 ∷ 112 ∷ []

pub same16 : codes used16 (steps 4) ≡ ops16
same16 = refl

abbrev used32 : List ℕ
used32 = 6 ∷ 12 ∷ 14 ∷ 22 ∷ 24 ∷ 28 ∷ 30 ∷ 32 ∷ 38 ∷ 44 ∷ 46 ∷ 48 ∷ 54 ∷ 56 ∷ 60 ∷ 62 ∷ 88 ∷ 112 ∷ 120 ∷ []

pub same32 : codes used32 (steps 5) ≡ ops32
same32 = refl

abbrev used64 : List ℕ
used64 = 3 ∷ 6 ∷ 7 ∷ 11 ∷ 12 ∷ 14 ∷ 15 ∷ 19 ∷ 22 ∷ 23 ∷ 24 ∷ 27 ∷ 28 ∷ 30 ∷ 31 ∷ 32 ∷ 35 ∷ 38 ∷ 39 ∷ 43 ∷ 44 ∷ 46 ∷ 47 ∷ 48 ∷ 51 ∷ 54 ∷ 55 ∷ 56 ∷ 59 ∷ 60 ∷ 62 ∷ 63 ∷ 76 ∷ 88 ∷ 92 ∷ 108 ∷ 112 ∷ 120 ∷ 124 ∷ []

pub same64 : codes used64 (steps 6) ≡ ops64
same64 = refl

-- ---- one step
abbrev proper : List ℤ → List ℕ → ℕ → Step → Bool
proper cos xs n (B a b g f) =
    ltb a n && (ltb b n && (not (eqb a b) && (ltb 0 (number_in xs g) && (ltb (number_in xs g) 128 && (eq_z (cos_of cos (number_in xs g)) (cos128 g) && eq_z (sin_of cos (number_in xs g)) (sin128 g))))))
proper cos xs n (H a b f) = true

abbrev all : List ℤ → List ℕ → ℕ → List Step → Bool
all cos xs n [] = true
all cos xs n (s ∷ ss) = proper cos xs n s && all cos xs n ss

pub record Proper (cos : List ℤ) (n a b g h : ℕ) : Type 0 where
  pub in-a : a < n
  pub in_b : b < n
  pub apart : a ≡ b → ⊥
  pub above : 0 < h
  pub below : h < 128
  pub cosine : cos_of cos h ≡ cos128 g
  pub sine : sin_of cos h ≡ sin128 g

no_eqb : (a b : ℕ) → T (not (eqb a b)) → a ≡ b → ⊥
no_eqb a b t e = subst (λ (z : Bool). T (not z)) (eq-eqb a b e) t

is-proper : (cos : List ℤ) (n a b g h : ℕ) → T (ltb a n && (ltb b n && (not (eqb a b) && (ltb 0 h && (ltb h 128 && (eq_z (cos_of cos h) (cos128 g) && eq_z (sin_of cos h) (sin128 g))))))) → Proper cos n a b g h
is-proper cos n a b g h t =
    let t₁ = and_right (ltb a n) _ t in
    let t₂ = and_right (ltb b n) _ t₁ in
    let t₃ = and_right (not (eqb a b)) _ t₂ in
    let t₄ = and_right (ltb 0 h) _ t₃ in
    let t₅ = and_right (ltb h 128) _ t₄ in
    record {
      in-a = ltb→lt a n (and_left (ltb a n) _ t);
      in_b = ltb→lt b n (and_left (ltb b n) _ t₁);
      apart = no_eqb a b (and_left (not (eqb a b)) _ t₂);
      above = ltb→lt 0 h (and_left (ltb 0 h) _ t₃);
      below = ltb→lt h 128 (and_left (ltb h 128) _ t₄);
      cosine = eq_z→eq (cos_of cos h) (cos128 g) (and_left (eq_z (cos_of cos h) (cos128 g)) _ t₅);
      sine = eq_z→eq (sin_of cos h) (sin128 g) (and_right (eq_z (cos_of cos h) (cos128 g)) _ t₅);
    }

-- two results stored at a and b, and the contents exchanged
exchanged : (t : List ℤ) (a b : ℕ) (u v : ℤ) → a < length t → b < length t → (a ≡ b → ⊥) → set (set (set (set t a u) b v) a (get_or (set (set t a u) b v) b (pos 0))) b (get_or (set (set t a u) b v) a (pos 0)) ≡ set (set t b u) a v
exchanged t a b u v ha hb ne =
    let x : get_or (set (set t a u) b v) b (pos 0) ≡ v = get_or-set_same (set t a u) b v (pos 0) (lt-length-set t a u hb) in
    let y : get_or (set (set t a u) b v) a (pos 0) ≡ u = get_or-set_other (set t a u) b a v (pos 0) ne ∙ get_or-set_same t a u (pos 0) ha in
    ap (λ (z : ℤ). set (set (set (set t a u) b v) a z) b (get_or (set (set t a u) b v) a (pos 0))) x
    ∙ ap (λ (z : ℤ). set (set (set (set t a u) b v) a v) b z) y
    ∙ ap (λ (l : List ℤ). set l b u) (set_comm (set t a u) b a v v (λ q. ne (sym q)) ∙ ap (λ (l : List ℤ). set l b v) (set-set t a u v))
    ∙ set-set (set t a v) b v u
    ∙ set_comm t a b v u ne

module _ (cos : List ℤ) (t : List ℤ) (a b g h : ℕ) (p : Proper cos (length t) a b g h) where
  pub turn-agrees : turn_of cos h a b a b t ≡ after t (B a b g false)
  unfolding turn_x turn_y after
  turn-agrees = rw (p.cosine, p.sine)

  pub flip-agrees : turn_of cos h a b b a t ≡ after t (B a b g true)
  unfolding turn_x turn_y after
  flip-agrees = rw (p.cosine, p.sine) (sym (exchanged t a b _ _ p.in-a p.in_b p.apart))

  module _ (lo hi : ℤ) (q : ℕ) where
    turn_step : step_of lo hi cos a b h q t ≡ (refused 0 0 q, after t (B a b g false))
    unfolding step_of
    turn_step = rw (ne_eqb h 0 (λ z. absurd (omega (arith, p.above))), lt-ltb h 128 p.below) (ap (λ (l : List ℤ). (refused 0 0 q, l)) turn-agrees)

    flip-step : step_of lo hi cos a b (h + 128) q t ≡ (refused 0 0 q, after t (B a b g true))
    unfolding step_of
    flip-step =
        let e : h + 128 - 128 ≡ h = omega arith in
        rw (ne_eqb (h + 128) 0 (λ z. absurd (omega arith)), le-ltb (h + 128) 128 (omega arith), e) (ap (λ (l : List ℤ). (refused 0 0 q, l)) flip-agrees)

after-length : (t : List ℤ) (s : Step) → length (after t s) ≡ length t
unfolding after
after-length t (B a b g false) = simp length-set
after-length t (B a b g true) = simp length-set
after-length t (H a b false) = simp length-set
after-length t (H a b true) = simp length-set

-- ---- the run
-- past the first step, a run of a table is a run of the rest of the table
goes-tail : (lo hi : ℤ) (cos : List ℤ) (x y z : ℕ) (ops : List ℕ) (k m p : ℕ) (t : List ℤ) → goes lo hi cos (x ∷ y ∷ z ∷ ops) (suc k) m p t ≡ goes lo hi cos ops k m p t
unfolding goes
goes-tail lo hi cos x y z ops k zero p t = refl
goes-tail lo hi cos x y z ops k (suc m) p t =
    let e : suc k * 3 ≡ suc (suc (suc (k * 3))) = omega arith in
    let f : suc k * 3 + 1 ≡ suc (suc (suc (k * 3 + 1))) = omega arith in
    let g : suc k * 3 + 2 ≡ suc (suc (suc (k * 3 + 2))) = omega arith in
    rw (f, g, e) (λ i. onward (step_of lo hi cos (get_or ops (k * 3) 0) (get_or ops (k * 3 + 1) 0) (get_or ops (k * 3 + 2) 0) p t) (λ q u. goes-tail lo hi cos x y z ops (suc k) m q u i))

-- a sum and a difference
module _ (lo hi : ℤ) (a b p : ℕ) (t : List ℤ) where
  abbrev X : ℤ
  X = item t a +ℤ item t b

  abbrev Y : ℤ
  Y = item t a -ℤ item t b

  sums_same : (f : ℕ → List ℤ → Answer × List ℤ) (vs u : List ℤ) → Same (f (p + 2) (set (set t a X) b Y)) (first_out lo hi (p + 2) vs) u → Same (onward (sums_of lo hi a b p t) f) (first_out lo hi p (X ∷ Y ∷ vs)) u
  unfolding first_out
  sums_same f vs u s = by-sum (in_range lo hi X) refl
    where
      by-diff : in_range lo hi X ≡ true → (d : Bool) → in_range lo hi Y ≡ d → Same (onward (sums_of lo hi a b p t) f) (first_out lo hi p (X ∷ Y ∷ vs)) u
      by-diff e true d = rw (e, d) (subst (λ (n : ℕ). Same (f (p + 2) (set (set t a X) b Y)) (first_out lo hi n vs) u) (omega arith) s)
      by-diff e false d = rw (e, d) record { answer = ap (refused 15 0) (add-one p); list = λ z. absurd (omega arith) }

      by-sum : (c : Bool) → in_range lo hi X ≡ c → Same (onward (sums_of lo hi a b p t) f) (first_out lo hi p (X ∷ Y ∷ vs)) u
      by-sum true e = by-diff e (in_range lo hi Y) refl
      by-sum false e = rw e record { answer = refl; list = λ z. absurd (omega arith) }

module _ (lo hi : ℤ) (cos : List ℤ) (xs : List ℕ) where
  -- a step that is not tested
  turned_same : (w : Answer × List ℤ) (p : ℕ) (l : List ℤ) (f : ℕ → List ℤ → Answer × List ℤ) (v : Answer) (u : List ℤ) → w ≡ (refused 0 0 p, l) → Same (f p l) v u → Same (onward w f) v u
  turned_same w p l f v u e s = subst (λ (x : Answer × List ℤ). Same (onward x f) v u) (sym e) s

  hadamard-same : (a b p : ℕ) (t : List ℤ) (ss : List Step) → Same (goes lo hi cos (codes xs ss) 0 (length ss) (p + 2) (after t (H a b false))) (first_out lo hi (p + 2) (log ss (after t (H a b false)))) (runs ss (after t (H a b false))) → Same (onward (step_of lo hi cos a b 0 p t) (λ q u. goes lo hi cos (a ∷ b ∷ 0 ∷ codes xs ss) 1 (length ss) q u)) (first_out lo hi p (X lo hi a b p t ∷ Y lo hi a b p t ∷ log ss (after t (H a b false)))) (runs ss (after t (H a b false)))
  unfolding step_of after
  hadamard-same a b p t ss s =
      sums_same lo hi a b p t (λ q u. goes lo hi cos (a ∷ b ∷ 0 ∷ codes xs ss) 1 (length ss) q u) (log ss (after t (H a b false))) (runs ss (after t (H a b false)))
      (subst (λ (w : Answer × List ℤ). Same w (first_out lo hi (p + 2) (log ss (after t (H a b false)))) (runs ss (after t (H a b false)))) (sym (goes-tail lo hi cos a b 0 (codes xs ss) 0 (length ss) (p + 2) (after t (H a b false)))) s)

  pub run-agrees : (ss : List Step) (n p : ℕ) (t : List ℤ) → length t ≡ n → T (all cos xs n ss) → Same (goes lo hi cos (codes xs ss) 0 (length ss) p t) (first_out lo hi p (log ss t)) (runs ss t)
  unfolding goes log runs saved first_out after
  run-agrees [] n p t e h = record { answer = refl; list = λ z. refl }
  run-agrees (B a b g false ∷ ss) n p t e h =
      let c : Proper cos (length t) a b g (number_in xs g) = is-proper cos (length t) a b g (number_in xs g) (subst (λ (m : ℕ). T (ltb a m && (ltb b m && (not (eqb a b) && (ltb 0 (number_in xs g) && (ltb (number_in xs g) 128 && (eq_z (cos_of cos (number_in xs g)) (cos128 g) && eq_z (sin_of cos (number_in xs g)) (sin128 g)))))))) (sym e) (and_left (proper cos xs n (B a b g false)) _ h)) in
      turned_same _ p (after t (B a b g false)) (λ q u. goes lo hi cos (codes xs (B a b g false ∷ ss)) 1 (length ss) q u) _ _ (turn_step cos t a b g (number_in xs g) c lo hi p)
      (subst (λ (w : Answer × List ℤ). Same w (first_out lo hi p (log ss (after t (B a b g false)))) (runs ss (after t (B a b g false)))) (sym (goes-tail lo hi cos a b (number_in xs g) (codes xs ss) 0 (length ss) p (after t (B a b g false))))
      (run-agrees ss n p (after t (B a b g false)) (after-length t (B a b g false) ∙ e) (and_right (proper cos xs n (B a b g false)) _ h)))
  run-agrees (B a b g true ∷ ss) n p t e h =
      let c : Proper cos (length t) a b g (number_in xs g) = is-proper cos (length t) a b g (number_in xs g) (subst (λ (m : ℕ). T (ltb a m && (ltb b m && (not (eqb a b) && (ltb 0 (number_in xs g) && (ltb (number_in xs g) 128 && (eq_z (cos_of cos (number_in xs g)) (cos128 g) && eq_z (sin_of cos (number_in xs g)) (sin128 g)))))))) (sym e) (and_left (proper cos xs n (B a b g true)) _ h)) in
      turned_same _ p (after t (B a b g true)) (λ q u. goes lo hi cos (codes xs (B a b g true ∷ ss)) 1 (length ss) q u) _ _ (flip-step cos t a b g (number_in xs g) c lo hi p)
      (subst (λ (w : Answer × List ℤ). Same w (first_out lo hi p (log ss (after t (B a b g true)))) (runs ss (after t (B a b g true)))) (sym (goes-tail lo hi cos a b (number_in xs g + 128) (codes xs ss) 0 (length ss) p (after t (B a b g true))))
      (run-agrees ss n p (after t (B a b g true)) (after-length t (B a b g true) ∙ e) (and_right (proper cos xs n (B a b g true)) _ h)))
  run-agrees (H a b false ∷ ss) n p t e h = hadamard-same a b p t ss (run-agrees ss n (p + 2) (after t (H a b false)) (after-length t (H a b false) ∙ e) h)
  run-agrees (H a b true ∷ ss) n p t e h = hadamard-same b a p t ss (run-agrees ss n (p + 2) (after t (H a b true)) (after-length t (H a b true) ∙ e) h)

-- ---- the whole call
pick : {A : Type 0} {l x y : A} (b : Bool) → (b ≡ true → l ≡ x) → (b ≡ false → l ≡ y) → l ≡ cond b x y
pick true f g = f refl
pick false f g = g refl

module _ (k n count : ℕ) (cos : List ℤ) (xs from ops : List ℕ) (two : 2 ^ k ≡ n) (table : codes xs (steps k) ≡ ops) (many : length (steps k) ≡ count) (places : T (below (λ i. eqb (get_or from i 0) (brev k i)) n)) (fine : T (all cos xs n (steps k))) (bits : ℕ) (t : List ℤ) (long : length t ≡ n) where
  permuted-is : permuted from t ≡ reordered k t
  permuted-is =
      ap (λ (m : ℕ). tab m (λ i. item t (get_or from i 0))) (long ∙ sym two)
      ∙ tab-same (2 ^ k) (λ i. item t (get_or from i 0)) (λ i. item t (brev k i)) (λ i h. ap (item t) (eqb→eq (get_or from i 0) (brev k i) (below_at (λ j. eqb (get_or from j 0) (brev k j)) n places i (subst (λ (m : ℕ). i < m) two h))))

  reordered-long : length (reordered k t) ≡ n
  reordered-long = length-tab (2 ^ k) (λ i. item t (brev k i)) ∙ two

  ran-is : ran (low bits) (high bits) cos from ops count t ≡ ends (first_out (low bits) (high bits) n (log (steps k) (reordered k t))) t (runs (steps k) (reordered k t))
  ran-is =
      ap (λ (l : List ℤ). settled t (goes (low bits) (high bits) cos ops 0 count (length t) l)) permuted-is
      ∙ ap (λ (m : ℕ). settled t (goes (low bits) (high bits) cos ops 0 count m (reordered k t))) long
      ∙ ap (λ (o : List ℕ). settled t (goes (low bits) (high bits) cos o 0 count n (reordered k t))) (sym table)
      ∙ ap (λ (m : ℕ). settled t (goes (low bits) (high bits) cos (codes xs (steps k)) 0 m n (reordered k t))) (sym many)
      ∙ ends_same t _ _ _ (run-agrees (low bits) (high bits) cos xs (steps k) n n (reordered k t) reordered-long fine)

  abbrev Found : ℕ
  Found = seek (number_ok (low bits) (high bits) t) 0 n

  abbrev Search : Answer
  Search = searched 15 0 n (λ i. i) Found done

  processed-is : processed k bits t ≡ ends (searched 15 0 n (λ i. i) Found (first_out (low bits) (high bits) n (log (steps k) (reordered k t)))) t (runs (steps k) (reordered k t))
  unfolding processed
  processed-is =
      ap (λ (a : Answer). ends a t (runs (steps k) (reordered k t)))
      (inputs-agree (low bits) (high bits) (number_ok (low bits) (high bits) t) (log (steps k) (reordered k t)) 0 t (λ i h. ap (number_ok (low bits) (high bits) t) (N.zero-add i))
      ∙ ap (λ (m : ℕ). searched 15 0 m (λ i. i) (seek (number_ok (low bits) (high bits) t) 0 (length t)) (first_out (low bits) (high bits) m (log (steps k) (reordered k t)))) (N.zero-add (length t))
      ∙ ap (λ (m : ℕ). searched 15 0 m (λ i. i) (seek (number_ok (low bits) (high bits) t) 0 m) (first_out (low bits) (high bits) m (log (steps k) (reordered k t)))) long)

  pub length-agrees : cond (eqb Search.number 0) (ran (low bits) (high bits) cos from ops count t) (Search, t) ≡ processed k bits t
  length-agrees = by-search (leb n Found) ∙ sym processed-is
    where
      by-search : (b : Bool) → cond (eqb (unless b (refused 15 0 Found) done).number 0) (ran (low bits) (high bits) cos from ops count t) (unless b (refused 15 0 Found) done, t) ≡ ends (unless b (refused 15 0 Found) (first_out (low bits) (high bits) n (log (steps k) (reordered k t)))) t (runs (steps k) (reordered k t))
      by-search true = ran-is
      by-search false = refl

module _ (bits : ℕ) (t : List ℤ) where
  -- the call on n numbers, the bits accepted
  abbrev Lengths : ℕ → Answer
  Lengths n = unless (eqb (length t) n) (refused 6 1 0) (searched 15 0 n (λ i. i) (seek (number_ok (low bits) (high bits) t) 0 n) done)

  sized : (k n : ℕ) → 2 ^ k ≡ n → (length t ≡ n → cond (eqb (searched 15 0 n (λ i. i) (seek (number_ok (low bits) (high bits) t) 0 n) done).number 0) (ran (low bits) (high bits) (angles_of n) (from_of n) (ops_of n) (count_of n) t) (searched 15 0 n (λ i. i) (seek (number_ok (low bits) (high bits) t) 0 n) done, t) ≡ processed k bits t) → cond (eqb (Lengths n).number 0) (ran (low bits) (high bits) (angles_of n) (from_of n) (ops_of n) (count_of n) t) (Lengths n, t) ≡ cond (eqb (length t) (2 ^ k)) (processed k bits t) (refused 6 1 0, t)
  sized k n e f = rw e (by_length (eqb (length t) n) refl)
    where
      by_length : (b : Bool) → eqb (length t) n ≡ b → cond (eqb (unless b (refused 6 1 0) (searched 15 0 n (λ i. i) (seek (number_ok (low bits) (high bits) t) 0 n) done)).number 0) (ran (low bits) (high bits) (angles_of n) (from_of n) (ops_of n) (count_of n) t) (unless b (refused 6 1 0) (searched 15 0 n (λ i. i) (seek (number_ok (low bits) (high bits) t) 0 n) done), t) ≡ cond b (processed k bits t) (refused 6 1 0, t)
      by_length true q = f (eqb-true (length t) n q)
      by_length false q = refl

  pub agree : (n : ℕ) → dct_of n bits t ≡ by_document n bits t
  unfolding dct_of by_document front ran_of
  agree n = by_bits (leb 16 bits && leb bits 20)
    where
      -- a length that is known
      at_length : (k m : ℕ) → n ≡ m → length_ok m ≡ true → cond (eqb (Lengths m).number 0) (ran (low bits) (high bits) (angles_of m) (from_of m) (ops_of m) (count_of m) t) (Lengths m, t) ≡ cond (eqb (length t) (2 ^ k)) (processed k bits t) (refused 6 1 0, t) → cond (eqb (unless (length_ok n) (refused 2 0 0) (Lengths n)).number 0) (ran (low bits) (high bits) (angles_of n) (from_of n) (ops_of n) (count_of n) t) (unless (length_ok n) (refused 2 0 0) (Lengths n), t) ≡ cond (eqb (length t) (2 ^ k)) (processed k bits t) (refused 6 1 0, t)
      at_length k m e o h = subst (λ (j : ℕ). cond (eqb (unless (length_ok j) (refused 2 0 0) (Lengths j)).number 0) (ran (low bits) (high bits) (angles_of j) (from_of j) (ops_of j) (count_of j) t) (unless (length_ok j) (refused 2 0 0) (Lengths j), t) ≡ cond (eqb (length t) (2 ^ k)) (processed k bits t) (refused 6 1 0, t)) (sym e) (rw o h)

      by_bits : (b : Bool) → cond (eqb (unless b (refused 1 0 0) (unless (length_ok n) (refused 2 0 0) (Lengths n))).number 0) (ran (low bits) (high bits) (angles_of n) (from_of n) (ops_of n) (count_of n) t) (unless b (refused 1 0 0) (unless (length_ok n) (refused 2 0 0) (Lengths n)), t) ≡ cond b (cond (eqb n 4) (cond (eqb (length t) (2 ^ 2)) (processed 2 bits t) (refused 6 1 0, t)) (cond (eqb n 8) (cond (eqb (length t) (2 ^ 3)) (processed 3 bits t) (refused 6 1 0, t)) (cond (eqb n 16) (cond (eqb (length t) (2 ^ 4)) (processed 4 bits t) (refused 6 1 0, t)) (cond (eqb n 32) (cond (eqb (length t) (2 ^ 5)) (processed 5 bits t) (refused 6 1 0, t)) (cond (eqb n 64) (cond (eqb (length t) (2 ^ 6)) (processed 6 bits t) (refused 6 1 0, t)) (refused 2 0 0, t)))))) (refused 1 0 0, t)
      by_bits true =
          pick (eqb n 4) (λ e. at_length 2 4 (eqb-true n 4 e) refl (sized 2 4 refl (λ l. length-agrees 2 4 4 angles4 used4 from4 ops4 refl same4 refl tt tt bits t l)))
          (λ e4. pick (eqb n 8) (λ e. at_length 3 8 (eqb-true n 8 e) refl (sized 3 8 refl (λ l. length-agrees 3 8 13 angles8 used8 from8 ops8 refl same8 refl tt tt bits t l)))
          (λ e8. pick (eqb n 16) (λ e. at_length 4 16 (eqb-true n 16 e) refl (sized 4 16 refl (λ l. length-agrees 4 16 37 angles16 used16 from16 ops16 refl same16 refl tt tt bits t l)))
          (λ e16. pick (eqb n 32) (λ e. at_length 5 32 (eqb-true n 32 e) refl (sized 5 32 refl (λ l. length-agrees 5 32 97 angles32 used32 from32 ops32 refl same32 refl tt tt bits t l)))
          (λ e32. pick (eqb n 64) (λ e. at_length 6 64 (eqb-true n 64 e) refl (sized 6 64 refl (λ l. length-agrees 6 64 241 angles64 used64 from64 ops64 refl same64 refl tt tt bits t l)))
          (λ e64. rw (e4, e8, e16, e32, e64))))))
      by_bits false = refl
