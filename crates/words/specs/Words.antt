-- A line of text as words and decimal numbers. A byte is its number. Definitions only.
--     blank, passed, words_of        the bytes between words; what a search passes over; the words of a text
--     in_line_at                   whether a line goes on at a place of a text: the byte there is no line feed
--     alike                         whether two lists of bytes are the same
--     digit, all_digits, value_of     decimal digits, and their value by Horner's rule
--     size_of, is_number, number_of    the size of a number, none where there is none; whether a word is a number, and which
--     leading, Taken                the numbers that words start with; what it is to read them into a list
use Rattle.std.specs.Prelude.{Bool, true, false, not, cond, ◌&&◌, ◌||◌, ◌≡◌, List, [], ◌∷◌, ◌++◌, ℕ, zero, suc, ◌+◌, ◌*◌, ◌-◌, eqb, leb, ℤ, pos, neg_ℤ, length, get_or, drop}

-- space, tab, carriage return
unfoldable pub blank : ℕ → Bool
blank b = eqb b 32 || (eqb b 9 || eqb b 13)

-- whether a search over blanks, or over a word, goes on at a byte
unfoldable pub passed : Bool → ℕ → Bool
passed blanks b = cond blanks (blank b) (not (blank b))

-- the same, of the byte at a place
abbrev pub passed_at : Bool → List ℕ → ℕ → Bool
passed_at blanks line k = passed blanks (get_or line k 0)

-- whether the byte at a place of a text is no line feed
abbrev pub in_line_at : List ℕ → ℕ → Bool
in_line_at text k = not (eqb (get_or text k 0) 10)

unfoldable pub alike : List ℕ → List ℕ → Bool
alike [] [] = true
alike [] (y ∷ ys) = false
alike (x ∷ xs) [] = false
alike (x ∷ xs) (y ∷ ys) = eqb x y && alike xs ys

unfoldable pub digit : ℕ → Bool
digit b = leb 48 b && leb b 57

unfoldable pub all_digits : List ℕ → Bool
all_digits [] = true
all_digits (b ∷ bs) = digit b && all_digits bs

-- the value of digits that stand behind others of value v
unfoldable pub value_of : ℕ → List ℕ → ℕ
value_of v [] = v
value_of v (b ∷ bs) = value_of (10 * v + (b - 48)) bs

abbrev pub none : ℕ
none = 4294967295

-- the size of a number whose digits before bs have the value v
unfoldable pub size_from : ℕ → List ℕ → ℕ
size_from v bs = cond (all_digits bs && leb (value_of v bs) 2147483647) (value_of v bs) none

unfoldable pub size_of : List ℕ → ℕ
size_of [] = none
size_of (b ∷ bs) = size_from 0 (b ∷ bs)

unfoldable pub signed_of : Bool → ℕ → ℤ
signed_of minus n = cond minus (neg_ℤ (pos n)) (pos n)

-- a word without its '-'
unfoldable pub digits_of : List ℕ → List ℕ
digits_of [] = []
digits_of (b ∷ bs) = cond (eqb b 45) bs (b ∷ bs)

unfoldable pub is_number : List ℕ → Bool
is_number w = leb (size_of (digits_of w)) 2147483647

unfoldable pub number_of : List ℕ → ℤ
number_of w = signed_of (eqb (get_or w 0 0) 45) (size_of (digits_of w))

-- a word before the words behind it, if it has a byte
unfoldable pub ended : List ℕ → List (List ℕ) → List (List ℕ)
ended [] ws = ws
ended (b ∷ bs) ws = (b ∷ bs) ∷ ws

-- the words of a text that stands behind w, the start of a word
unfoldable pub words_of : List ℕ → List ℕ → List (List ℕ)
words_of w [] = ended w []
words_of w (b ∷ bs) = cond (blank b) (ended w (words_of [] bs)) (words_of (w ++ (b ∷ [])) bs)

-- the numbers before the first word that is none, at most n
unfoldable pub leading : ℕ → List (List ℕ) → List ℤ
leading zero ws = []
leading (suc n) [] = []
leading (suc n) (w ∷ ws) = cond (is_number w) (number_of w ∷ leading n ws) []

-- the leading numbers for which a list has room are at its start now; good says that they are all the words
pub record Taken (ws : List (List ℕ)) (before after : List ℤ) (count : ℕ) (good : Bool) : Type 0 where
  pub count-is : count ≡ length (leading (length before) ws)
  pub good-is : good ≡ eqb count (length ws)
  pub list-is : after ≡ leading (length before) ws ++ drop count before
