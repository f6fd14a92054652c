-- Bytes and what they gain. Assumes nothing.
--     byte-sum       a byte and its number, as the machine adds them
--     seek-before    a search that goes on from the number before
--     no-eight       bytes are in range: refusal 8 does not come, and the rest is the samples' answer
--     read-ends      what a call leaves, read back as bytes
use mathlib.Core.Path.{◌≡◌, refl, sym, ap, ◌∙◌}
use mathlib.Core.Bool.{Bool, true, false, cond}
use mathlib.Core.List.{List, map}
use Prim.Native.Nat.{ℕ, suc, ◌+◌, ◌≤◌, ◌<◌}
use native.Mathlib.Nat.{le_of_eq}
use lib.Dec.{eqb, lit<}
use lib.IntN.{ℤ, pos, nat_abs, ◌+ℤ◌}
use lib.ListN.{get_or, get_or-map}
use mir.Syntax.{w32}
use mir.Val.{SFits, to_z, of_z}
use Rattle.whole.specs.Search.{seek}
use Rattle.whole.proofs.Num.{Num, given, made, plus}
use Rattle.whole.proofs.Search.{seek-all}
use Rattle.octets.proofs.Lists.{byte-is, numbers-back}
use Rattle.answers.specs.declared.Answer.{Answer}
use Rattle.answers.specs.Answers.{unless, ends}
use Rattle.answers.proofs.Verdicts.{search-opens}
use Rattle.lossless.specs.Gains.{present_ok, leaves, samples}
use Rattle.lossless.specs.Step.{sample}
use Rattle.bytesteps.specs.Steps.{read_back}

pub byte-sum : {n e : ℤ} {x : ℕ} → n ≡ pos x → x ≤ 255 → SFits w32 e → nat_abs e ≤ 1048576 → Num (to_z w32 (of_z w32 n) +ℤ to_z w32 (of_z w32 e)) (pos x +ℤ e) (255 + 1048576)
byte-sum {n} {e} {x} q h f s = rw q (plus (made w32 {z = pos x} h (lit< tt)) (given f s))

pub seek-before : (p : ℕ → Bool) {m n k l : ℕ} → k ≡ suc m → n ≡ suc l → seek p m n ≡ cond (p m) (seek p k l) m
unfolding seek
seek-before p {m} {n} {k} {l} e f = ap (λ j. seek p m j) f ∙ ap (λ i. cond (p m) (seek p i l) m) (sym e)

module _ (at : ℕ → ℕ) (b : List ℕ) (bytes : (k : ℕ) → k < 16 → get_or b (at k) 0 ≤ 255) where
  pub present-bytes : (k : ℕ) → k < 16 → present_ok (sample 8) at (map pos b) k ≡ true
  present-bytes k h = rw (get_or-map pos b (at k) 0) (byte-is (get_or b (at k) 0) (bytes k h))

  pub no-eight : (g : ℕ → ℤ) → samples (sample 8) at (map pos b) g ≡ leaves (sample 8) at (map pos b) g
  no-eight g = search-opens 8 2 16 at (seek (present_ok (sample 8) at (map pos b)) 0 16) (leaves (sample 8) at (map pos b) g) (le_of_eq (sym (seek-all (present_ok (sample 8) at (map pos b)) 0 16 present-bytes)))

pub read-ends : (a : Answer) (b : List ℕ) (work : List ℤ) → read_back (ends a (map pos b) work) ≡ ends a b (map nat_abs work)
read-ends a b work = ap (λ (l : List ℕ). (a, l)) (by_answer (eqb a.number 0))
  where
    by_answer : (t : Bool) → map nat_abs (unless t (map pos b) work) ≡ unless t b (map nat_abs work)
    by_answer true = refl
    by_answer false = numbers-back b
