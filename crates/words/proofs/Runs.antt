-- A search over the bytes of a line is a run of bytes that pass the test. Assumes nothing.
--     part         what `&line[f..t]` has
--     seek-run     a search from a place on ends behind the run that starts there
use mathlib.Core.Path.{◌≡◌, sym, ap, ◌∙◌}
use mathlib.Core.Bool.{Bool, true, false, cond}
use mathlib.Core.List.{List}
use Prim.Native.Nat.{ℕ, zero, suc, ◌+◌, ◌-◌, ◌≤◌, ◌<◌}
use native.Mathlib.Omega.{arith}
use lib.ListN.{length, get_or, take, drop, drop_of_length-le}
use lib.Seq.{slice, drop-cons}
use Rattle.std.proofs.lemmas.List.{drop-take, length-drop, take_all}
use Rattle.std.specs.List.{prefix_len}
use Rattle.whole.specs.Search.{seek}

pub part : (f t : ℕ) (line : List ℕ) → f ≤ t → take (t - f) (drop f line) ≡ slice f t line
part f t line h =
    let e : f + (t - f) ≡ t = omega arith in
    sym (drop-take f (t - f) line) ∙ ap (λ n. drop f (take n line)) e

module _ (p : ℕ → Bool) (line : List ℕ) where
  run : (i n : ℕ) → i + n ≡ length line → seek (λ k. p (get_or line k 0)) i n ≡ i + prefix_len p (drop i line)
  unfolding seek
  run i zero h =
      let l : length line ≤ i = omega arith in
      rw (drop_of_length-le line l) (omega arith)
  run i (suc n) h =
      let l : i < length line = omega arith in
      rw (drop-cons line i 0 l) (by-test (p (get_or line i 0)) (run (suc i) n (omega arith)))
    where
      by-test : (b : Bool) → seek (λ k. p (get_or line k 0)) (suc i) n ≡ suc i + prefix_len p (drop (suc i) line)
          → cond b (seek (λ k. p (get_or line k 0)) (suc i) n) i ≡ i + cond b (1 + prefix_len p (drop (suc i) line)) 0
      by-test true e = omega arith
      by-test false e = omega arith

  pub seek-run : (i r : ℕ) → i ≤ length line → r ≡ prefix_len p (take (length line - i) (drop i line)) → i + r ≡ seek (λ k. p (get_or line k 0)) i (length line - i)
  seek-run i r h e =
      let l : length (drop i line) ≤ length line - i = omega (arith, length-drop i line) in
      ap (λ n. i + n) (e ∙ ap (prefix_len p) (take_all (length line - i) (drop i line) l)) ∙ sym (run i (length line - i) (omega arith))
