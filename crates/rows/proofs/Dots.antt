-- Sums of products, of numbers as the machine has them. Assumes nothing.
--     Term                                a turn of a sum: the products before place j summed up, and the two numbers at j
--     term                                such a turn, of numbers that a function reads
--     product_fits, sum_fits, sum_next    what the turn asks of the machine, and the sum after it
--     square_of, small_of                 a table by rows, for n numbers
--     as_read, left_by                    numbers that are read as they are
use mathlib.Core.Path.{◌≡◌, sym, ap, ◌∙◌, subst}
use mathlib.Core.List.{List, map}
use Prim.Native.Nat.{ℕ, ◌+◌, ◌*◌, ◌^◌, ◌<◌}
use native.Mathlib.Nat as N
use native.Mathlib.Numerals.{add-one}
use native.Mathlib.Omega.{arith}
use lib.IntN.{ℤ, pos, ◌+ℤ◌, ◌*ℤ◌, nat_abs}
use lib.ListN.{length, get_or, take}
use lib.Signed.{mag}
use mir.Syntax.{w32}
use mir.Val.{SFits, to_z, of_z}
use Rattle.std.proofs.lemmas.List.{map-id, get_or-map}
use Rattle.whole.specs.Sums.{dot_z, spread, row_at, dense}
use Rattle.whole.proofs.Sums.{dot-step, step-size}
use Rattle.whole.proofs.Num.{Num, times, plus, ask, read, back}
use Rattle.rows.specs.Rows.{Rows}

abbrev word : ℤ → ℤ
word z = to_z w32 (of_z w32 z)

pub record Term (row xs : List ℤ) (j : ℕ) (acc a x : ℤ) : Type 0 where
  pub table : a ≡ get_or row j (pos 0)
  pub input : x ≡ get_or xs j (pos 0)
  pub table_fits : mag a < 2147483648
  pub input_fits : mag x < 2147483648
  pub sum : acc ≡ dot_z (take j row) xs
  pub room : spread row xs < 2 ^ 31

-- of numbers that a function reads
pub term : {X : Type 0} (f : X → ℤ) (v : List X) {row : List ℤ} {j : ℕ} {acc a x : ℤ} {y : X} → a ≡ get_or row j (pos 0) → mag a < 2147483648 → x ≡ f y → mag x < 2147483648
    → y ≡ get_or v j y → j < length v → acc ≡ dot_z (take j row) (map f v) → spread row (map f v) < 2 ^ 31 → Term row (map f v) j acc a x
term f v {j = j} {y = y} e p q r is h s m = record {
  table = e;
  input = q ∙ ap f is ∙ sym (get_or-map f v j y (pos 0) h);
  table_fits = p;
  input_fits = r;
  sum = s;
  room = m;
}

module _ {row xs : List ℤ} {j : ℕ} {acc a x : ℤ} (t : Term row xs j acc a x) where
  abbrev weight : ℤ
  weight = get_or row j (pos 0)

  abbrev number : ℤ
  number = get_or xs j (pos 0)

  small : nat_abs (dot_z (take j row) xs) + nat_abs weight * nat_abs number < 2 ^ 31
  small = N.lt_of_le_of_lt (step-size j row xs) t.room

  one : nat_abs weight * nat_abs number < 2 ^ 31
  one = let h = small in omega arith

  product : Num (word a *ℤ word x) (weight *ℤ number) (nat_abs weight * nat_abs number)
  product =
      times
      (record { is = back t.table_fits ∙ t.table; size = N.le_refl (nat_abs weight) })
      (record { is = back t.input_fits ∙ t.input; size = N.le_refl (nat_abs number) })

  total : Num (acc +ℤ word (word a *ℤ word x)) (dot_z (take j row) xs +ℤ weight *ℤ number) (nat_abs (dot_z (take j row) xs) + nat_abs weight * nat_abs number)
  total = plus (record { is = t.sum; size = N.le_refl (nat_abs (dot_z (take j row) xs)) }) (read product w32 one)

  pub product_fits : SFits w32 (word a *ℤ word x)
  product_fits = ask product w32 one

  pub sum_fits : SFits w32 (acc +ℤ word (word a *ℤ word x))
  sum_fits = ask total w32 small

  pub sum_next : word (acc +ℤ word (word a *ℤ word x)) ≡ dot_z (take (j + 1) row) xs
  sum_next = (read total w32 small).is ∙ sym (dot-step j row xs) ∙ ap (λ n. dot_z (take n row) xs) (sym (add-one j))

module _ {t xs : List ℤ} {n : ℕ} (e : length xs ≡ n) (r : Rows t xs) where
  pub square_of : length t ≡ n * n
  square_of = r.square ∙ ap (λ m. m * m) e

  pub small_of : (i : ℕ) → i < n → spread (row_at n t i) xs < 2 ^ 31
  small_of i h = subst (λ (m : ℕ). spread (row_at m t i) xs < 2 ^ 31) e (r.small i (subst (λ (m : ℕ). i < m) (sym e) h))

pub as_read : {t xs : List ℤ} → Rows t xs → Rows t (map (λ (z : ℤ). z) xs)
as_read {t} {xs} r = subst (Rows t) (sym (map-id xs)) r

pub left_by : (t xs : List ℤ) {out : List ℤ} (n : ℕ) → out ≡ dense n t (map (λ (z : ℤ). z) xs) → out ≡ dense n t xs
left_by t xs n e = e ∙ ap (dense n t) (map-id xs)
