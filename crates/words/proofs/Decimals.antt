-- Decimal digits, read one after another. Assumes nothing.
--     value_grows                              digits that follow make no value smaller
--     digit-is, digit-range                    the bytes that are digits
--     digits-behind, digits-alone              a word's digits stand behind its '-', if it has one
--     size_none, size-start                    no bytes; the first of some
--     size_step, size-other, size-large        the byte at place i: a digit; none; a digit behind a value too large for one more
--     size-ends                                no byte left: the value is an i32, or is none
--     plain, minus_none, minus-some            a word without a '-', and with one
use mathlib.Core.Path.{◌≡◌, refl, sym, ap, ◌∙◌}
use mathlib.Core.Bool.{true, false, and-false}
use mathlib.Core.List.{List, [], ◌∷◌}
use Prim.Native.Nat.{ℕ, ◌+◌, ◌*◌, ◌-◌, ◌≤◌, ◌<◌}
use native.Mathlib.Numerals.{add-one}
use native.Mathlib.Omega.{arith}
use borrow.Author.Tests.{le-leb, lt-leb, leb-true, eq-eqb, ne_eqb}
use lib.Dec.{leb}
use native.Mathlib.Decide.{dec_le}
use lib.Dec.{lit<}
use lib.IntN.{ℤ, pos, neg_ℤ, ◌-ℤ◌, +ℤ_idl}
use lib.ListN.{length, get_or, take, drop, drop_of_length-le}
use lib.Seq.{drop-cons}
use mir.Syntax.{w32}
use mir.Val.{SFits, to_z, of_z}
use mir.ValLaws.{to_z_pos}
use Rattle.std.specs.Char.{is_ascii_digit}
use Rattle.std.specs.Option.{MatchOption}
use Rattle.std.specs.Result.{OkIff, result_ok}
use Rattle.std.proofs.Common.{Option, Some, None, Result, Ok, Err}
use Rattle.std.proofs.lemmas.List.{take_rest}
use Rattle.whole.proofs.Num.{Num, lit, minus, ask, read}
use Rattle.whole.proofs.Tests.{both}
use Rattle.words.specs.Words.{digit, digits_of, all_digits, value_of, none, size_from, size_of, signed_of, is_number, number_of}

pub value_grows : (v : ℕ) (bs : List ℕ) → v ≤ value_of v bs
unfolding value_of
value_grows v [] = omega arith
value_grows v (b ∷ bs) = omega (arith, value_grows (10 * v + (b - 48)) bs)

pub digit-is : (b : ℕ) → is_ascii_digit b ≡ digit b
unfolding digit
digit-is b = refl

pub digit-range : (b : ℕ) → digit b ≡ true → (48 ≤ b) × (b ≤ 57)
unfolding digit
digit-range b e = let h = both (leb 48 b) (leb b 57) e in (leb-true 48 b h.0, leb-true b 57 h.1)

pub digits-behind : (w : List ℕ) → 0 < length w → get_or w 0 0 ≡ 45 → digits_of w ≡ drop 1 w
unfolding digits_of
digits-behind [] h e = absurd (omega arith)
digits-behind (b ∷ bs) h e = rw (eq-eqb b 45 e)

pub digits-alone : (w : List ℕ) → (get_or w 0 0 ≡ 45 → ⊥) → digits_of w ≡ w
unfolding digits_of
digits-alone [] e = refl
digits-alone (b ∷ bs) e = rw (ne_eqb b 45 e)

pub size_none : (w : List ℕ) → length w ≡ 0 → size_of w ≡ none
unfolding size_of
size_none [] h = refl
size_none (b ∷ bs) h = absurd (omega arith)

pub size-start : (w : List ℕ) → 0 < length w → size_of w ≡ size_from 0 w
unfolding size_of
size-start [] h = absurd (omega arith)
size-start (b ∷ bs) h = refl

module _ (w : List ℕ) (i v : ℕ) where
  module _ (h : length w ≤ i) where
    size-done : v ≤ 2147483647 → size_from v (drop i w) ≡ v
    unfolding size_from all_digits value_of
    size-done l = rw (drop_of_length-le w h, le-leb v 2147483647 l)

    size-past : 2147483647 < v → size_from v (drop i w) ≡ none
    unfolding size_from all_digits value_of
    size-past l = rw (drop_of_length-le w h, lt-leb v 2147483647 l)

    pub size-ends : {E : Type 0} (r : Result ℤ E) → size_of w ≡ size_from v (drop i w) → OkIff r (SFits w32 (pos v)) (pos v)
        → MatchOption (result_ok r) (size_of w ≡ none) (λ z. (size_of w ≤ 2147483647) × (z ≡ pos (size_of w)))
    size-ends (Ok x) e (f, g) =
        let l : v ≤ 2147483647 = omega (arith, f.sfits) in
        let s : size_of w ≡ v = e ∙ size-done l in
        (omega arith, g ∙ ap pos (sym s))
    size-ends (Err x) e f = e ∙ past (dec_le v 2147483647)
      where
        past : Dec (v ≤ 2147483647) → size_from v (drop i w) ≡ none
        past (yes l) = absurd (f (record { sfits = omega arith }))
        past (no l) = size-past (omega arith)

  module _ (h : i < length w) where
    pub size_step : digit (get_or w i 0) ≡ true → size_from v (drop i w) ≡ size_from (10 * v + (get_or w i 0 - 48)) (drop (i + 1) w)
    unfolding size_from all_digits value_of
    size_step e = rw (drop-cons w i 0 h, add-one i, e)

    pub size-other : digit (get_or w i 0) ≡ false → size_from v (drop i w) ≡ none
    unfolding size_from all_digits
    size-other e = rw (drop-cons w i 0 h, e)

    pub size-large : 214748364 < v → size_from v (drop i w) ≡ none
    unfolding size_from value_of
    size-large l =
        let next = 10 * v + (get_or w i 0 - 48) in
        let m : 2147483647 < value_of next (drop (i + 1) w) = omega (arith, value_grows next (drop (i + 1) w)) in
        rw (drop-cons w i 0 h, ← add-one i, lt-leb (value_of next (drop (i + 1) w)) 2147483647 m, and-false)

module _ (w : List ℕ) where
  pub plain : (o : Option ℤ) → (get_or w 0 0 ≡ 45 → ⊥)
      → MatchOption o (size_of w ≡ none) (λ z. (size_of w ≤ 2147483647) × (z ≡ pos (size_of w)))
      → MatchOption o (is_number w ≡ false) (λ z. (is_number w ≡ true) × (z ≡ number_of w))
  unfolding is_number number_of signed_of
  plain None e h = rw (digits-alone w e, h)
  plain (Some z) e h =
      (rw (digits-alone w e, le-leb (size_of w) 2147483647 h.0), h.1 ∙ sym (rw (ne_eqb (get_or w 0 0) 45 e, digits-alone w e)))

  module _ (long : 0 < length w) (sign : get_or w 0 0 ≡ 45) where
    behind : take (length w - 1) (drop 1 w) ≡ digits_of w
    behind = take_rest w 1 ∙ sym (digits-behind w long sign)

    pub minus_none : size_of (take (length w - 1) (drop 1 w)) ≡ none → is_number w ≡ false
    unfolding is_number
    minus_none h = rw (sym (ap size_of behind) ∙ h)

    pub minus-some : (z : ℤ) → (size_of (take (length w - 1) (drop 1 w)) ≤ 2147483647) × (z ≡ pos (size_of (take (length w - 1) (drop 1 w))))
        → SFits w32 (pos 0 -ℤ to_z w32 (of_z w32 z)) × (is_number w ≡ true) × (to_z w32 (of_z w32 (pos 0 -ℤ to_z w32 (of_z w32 z))) ≡ number_of w)
    unfolding is_number number_of signed_of
    minus-some z h =
        let n = size_of (take (length w - 1) (drop 1 w)) in
        let e : size_of (digits_of w) ≡ n = ap size_of (sym behind) in
        let g : number_of w ≡ neg_ℤ (pos n) = rw (eq-eqb (get_or w 0 0) 45 sign, e) in
        let held : Num (to_z w32 (of_z w32 z)) (pos n) 2147483647 = record { is = ap (λ y. to_z w32 (of_z w32 y)) h.1 ∙ to_z_pos w32 n (omega (arith, h.0)); size = omega (arith, h.0) } in (
          ask (minus (lit (pos 0)) held) w32 (lit< tt),
          rw (e, le-leb n 2147483647 h.0),
          (read (minus (lit (pos 0)) held) w32 (lit< tt)).is ∙ +ℤ_idl _ ∙ sym g,
        )
