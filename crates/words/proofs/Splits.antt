-- The words of a line, found by searches. Assumes nothing.
--     passed-between   a search passes over what it tests alone: blanks, or no blank
--     words-none       no byte, no word
--     passed-blanks    a search over blanks passes over no word
--     passed-stop      and ends at a byte that is not blank, if any
--     passed-word      from there a search over a word ends behind it
use mathlib.Core.Path.{◌≡◌, refl, sym, ap, ◌∙◌}
use mathlib.Core.Bool.{Bool, true, false, not, cond}
use mathlib.Core.List.{List, [], ◌∷◌, ◌++◌, append-nil}
use Prim.Native.Nat.{ℕ, zero, suc, ◌+◌, ◌-◌, ◌≤◌, ◌<◌}
use native.Mathlib.Numerals.{add-one}
use native.Mathlib.Decide.{dec_le}
use native.Mathlib.Omega.{arith}
use lib.ListN.{length, get_or, drop, drop_of_length-le}
use lib.Seq.{slice, slice-cons, slice_empty, drop-cons, append_snoc}
use Rattle.whole.specs.Search.{seek}
use Rattle.whole.proofs.Search.{seek-from, seek-most, seek_found}
use Rattle.words.specs.Words.{blank, passed, passed_at, ended, words_of}

pub passed-between : (p : ℕ → Bool) (i n k : ℕ) → i ≤ k → k < seek p i n → p k ≡ true
unfolding seek
passed-between p i zero k h l = absurd (omega arith)
passed-between p i (suc n) k h l = by-test (p i) refl l (passed-between p (suc i) n k)
  where
    by_place : p i ≡ true → Dec (suc i ≤ k) → (suc i ≤ k → p k ≡ true) → p k ≡ true
    by_place q (yes m) f = f m
    by_place q (no m) f = let z : k ≡ i = omega arith in ap p z ∙ q

    by-test : (b : Bool) → p i ≡ b → k < cond b (seek p (suc i) n) i → (suc i ≤ k → k < seek p (suc i) n → p k ≡ true) → p k ≡ true
    by-test true q m f = by_place q (dec_le (suc i) k) (λ g. f g m)
    by-test false q m f = absurd (omega arith)

module _ (line : List ℕ) where
  pub words-none : (i : ℕ) → length line ≤ i → words_of [] (drop i line) ≡ []
  unfolding words_of ended
  words-none i h = rw (drop_of_length-le line h)

  skipped : (i n : ℕ) → i + n ≡ length line → words_of [] (drop i line) ≡ words_of [] (drop (seek (passed_at true line) i n) line)
  unfolding seek passed words_of ended
  skipped i zero h = refl
  skipped i (suc n) h = rw (drop-cons line i 0 (omega arith)) (by-test (blank (get_or line i 0)) refl (skipped (suc i) n (omega arith)))
    where
      by-test : (b : Bool) → blank (get_or line i 0) ≡ b → words_of [] (drop (suc i) line) ≡ words_of [] (drop (seek (passed_at true line) (suc i) n) line)
          → cond b (words_of [] (drop (suc i) line)) (words_of (get_or line i 0 ∷ []) (drop (suc i) line)) ≡ words_of [] (drop (cond b (seek (passed_at true line) (suc i) n) i) line)
      by-test true e f = f
      by-test false e f = rw (drop-cons line i 0 (omega arith), e)

  in-word : (w : List ℕ) (i n : ℕ) → i + n ≡ length line
      → words_of w (drop i line) ≡ ended (w ++ slice i (seek (passed_at false line) i n) line) (words_of [] (drop (seek (passed_at false line) i n) line))
  unfolding seek passed words_of ended
  in-word w i zero h =
      let l : length line ≤ i = omega arith in
      rw (slice_empty i line, drop_of_length-le line l, append-nil w)
  in-word w i (suc n) h =
      rw (drop-cons line i 0 (omega arith))
      (by-test (blank (get_or line i 0)) refl (in-word (w ++ (get_or line i 0 ∷ [])) (suc i) n (omega arith)))
    where
      e : ℕ
      e = seek (passed_at false line) (suc i) n

      by-test : (b : Bool) → blank (get_or line i 0) ≡ b
          → words_of (w ++ (get_or line i 0 ∷ [])) (drop (suc i) line) ≡ ended ((w ++ (get_or line i 0 ∷ [])) ++ slice (suc i) e line) (words_of [] (drop e line))
          → cond b (ended w (words_of [] (drop (suc i) line))) (words_of (w ++ (get_or line i 0 ∷ [])) (drop (suc i) line)) ≡ ended (w ++ slice i (cond (not b) e i) line) (words_of [] (drop (cond (not b) e i) line))
      by-test true q f = rw (slice_empty i line, append-nil w, drop-cons line i 0 (omega arith), q)
      by-test false q f =
          f ∙ ap (λ l. ended l (words_of [] (drop e line)))
          (append_snoc w (get_or line i 0) (slice (suc i) e line)
          ∙ ap (λ l. w ++ l) (sym (slice-cons i e line 0 (omega (arith, seek-from (passed_at false line) (suc i) n)) (omega (arith, seek-most (passed_at false line) (suc i) n)))))

  word_next : (i n : ℕ) → i + 1 + n ≡ length line → blank (get_or line i 0) ≡ false
      → let e = seek (passed_at false line) (i + 1) n in words_of [] (drop i line) ≡ slice i e line ∷ words_of [] (drop e line)
  unfolding words_of ended
  word_next i n h q =
      let m : i < length line = omega arith in
      rw (add-one i, drop-cons line i 0 m, q)
      (in-word (get_or line i 0 ∷ []) (suc i) n (omega arith)
      ∙ ap (λ l. l ∷ words_of [] (drop (seek (passed_at false line) (suc i) n) line))
      (sym (slice-cons i (seek (passed_at false line) (suc i) n) line 0 (omega (arith, seek-from (passed_at false line) (suc i) n)) (omega (arith, seek-most (passed_at false line) (suc i) n)))))

  module _ (i r : ℕ) where
    module _ (h : i ≤ length line) (e : r ≡ seek (passed_at true line) i (length line - i)) where
      pub passed-blanks : words_of [] (drop i line) ≡ words_of [] (drop r line)
      passed-blanks = rw e (skipped i (length line - i) (omega arith))

      pub passed-stop : r < length line → blank (get_or line r 0) ≡ false
      unfolding passed
      passed-stop l = rw e (seek_found (passed_at true line) i (length line - i) (omega arith))

    pub passed-word : i < length line → blank (get_or line i 0) ≡ false → r ≡ seek (passed_at false line) (i + 1) (length line - (i + 1))
        → words_of [] (drop i line) ≡ slice i r line ∷ words_of [] (drop r line)
    passed-word h q e = rw e (word_next i (length line - (i + 1)) (omega arith) q)
