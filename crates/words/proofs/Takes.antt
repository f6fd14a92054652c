-- Numbers read from words into a list, one after another. Assumes nothing.
--     Taking                              count words of ws are read, and the words rest are left
--     take-start, take_more               no word is read; the next word is a number, and there is room
--     take_done, take-full, take-other    the end: no word is left, or no room, or the next is no number
use mathlib.Core.Path.{◌≡◌, refl, sym, ap, ◌∙◌}
use mathlib.Core.Bool.{Bool, true, false}
use mathlib.Core.List.{List, [], ◌∷◌, ◌++◌, append-nil}
use Prim.Native.Nat.{ℕ, zero, suc, ◌+◌, ◌-◌, ◌≤◌, ◌<◌}
use native.Mathlib.Nat.{sub-zero}
use native.Mathlib.Numerals.{add-one}
use native.Mathlib.Omega.{arith}
use borrow.Author.Tests.{eq-eqb, ne_eqb}
use lib.Dec.{eqb}
use lib.IntN.{ℤ}
use lib.ListN.{length, take, drop, set, length-set, take-append-drop}
use lib.Seq.{length-take-le, append_snoc, take-suc-set, drop-set-lt, drop-drop}
use Rattle.words.specs.Words.{is_number, number_of, leading, Taken}

leading-none : (n : ℕ) → leading n [] ≡ []
unfolding leading
leading-none zero = refl
leading-none (suc n) = refl

module _ (ws : List (List ℕ)) (before : List ℤ) where
  pub record Taking (rest : List (List ℕ)) (list : List ℤ) (count : ℕ) : Type 0 where
    pub room : count ≤ length before
    pub same : length list ≡ length before
    pub words : length ws ≡ count + length rest
    pub numbers : leading (length before) ws ≡ take count list ++ leading (length before - count) rest
    pub others : drop count list ≡ drop count before

  pub take-start : Taking ws before 0
  take-start = record { room = omega arith; same = refl; words = omega arith; numbers = ap (λ n. leading n ws) (sym (sub-zero (length before))); others = refl }

  module _ {rest : List (List ℕ)} {list : List ℤ} {count : ℕ} where
    -- nothing more is read
    stop : Taking rest list count → leading (length before - count) rest ≡ [] → (good : Bool) → good ≡ eqb count (length ws) → Taken ws before list count good
    stop t e good g =
        let all : leading (length before) ws ≡ take count list = t.numbers ∙ ap (λ l. take count list ++ l) e ∙ append-nil _ in
        let m : count ≤ length list = omega arith in
        record {
          count-is = sym (ap length all ∙ length-take-le count list m);
          good-is = g;
          list-is = sym (rw (all, ← t.others) (take-append-drop count list));
        }

  pub take_done : {list : List ℤ} {count : ℕ} → Taking [] list count → Taken ws before list count true
  take_done {list} {count} t = stop t (leading-none (length before - count)) true (sym (eq-eqb count (length ws) (omega arith)))

  module _ {w : List ℕ} {rest : List (List ℕ)} {list : List ℤ} {count : ℕ} (t : Taking (w ∷ rest) list count) where
    some_left : false ≡ eqb count (length ws)
    some_left = sym (ne_eqb count (length ws) (λ e. omega arith))

    pub take-full : length before ≤ count → Taken ws before list count false
    unfolding leading
    take-full h =
        let k : length before - count ≡ 0 = omega arith in
        stop t (rw k) false some_left

    pub take-other : count < length before → is_number w ≡ false → Taken ws before list count false
    unfolding leading
    take-other h e =
        let k : length before - count ≡ suc (length before - suc count) = omega arith in
        stop t (rw (k, leading, e)) false some_left

    pub take_more : count < length before → is_number w ≡ true → Taking rest (set list count (number_of w)) (count + 1)
    unfolding leading
    take_more h e =
        let k : length before - count ≡ suc (length before - suc count) = omega arith in
        let m : count < length list = omega arith in
        record {
          room = omega arith;
          same = length-set list count (number_of w) ∙ t.same;
          words = omega arith;
          numbers = rw (add-one count, take-suc-set list count (number_of w) m, append_snoc (take count list) (number_of w) (leading (length before - suc count) rest)) (t.numbers ∙ rw (k, leading, e));
          others = drop-set-lt (count + 1) list count (number_of w) (omega arith) ∙ sym (drop-drop 1 count list) ∙ ap (drop 1) t.others ∙ drop-drop 1 count before;
        }
