-- No command reaches the pad (document 02, section 2). Assumes nothing. For steps and their undos it is `pad-step` and `pad-undo` of `lossless`.
--     pad-block      a block, drawn or refused, leaves every sample at or past the visible width
use mathlib.Core.Path.{◌≡◌, refl, sym, ap, ◌∙◌}
use mathlib.Core.Bool.{Bool, true, false, ◌&&◌, cond}
use mathlib.Core.List.{List, [], ◌∷◌, ◌++◌}
use mathlib.Core.Logic.{◌⊎◌, inl, inr}
use Prim.Native.Nat.{ℕ, zero, suc, ◌+◌, ◌*◌, ◌/◌, ◌%◌, ◌≤◌, ◌<◌}
use native.Mathlib.Nat as N
use native.Mathlib.Decide.{ℕ_discrete}
use native.Mathlib.Omega.{arith}
use lib.Dec.{leb, ltb, ltb→lt}
use lib.IntN.{ℤ, pos}
use lib.ListN.{length, take, drop, length-drop, take-append-drop, get_or-eq_default}
use lib.Seq.{length-take-le}
use Rattle.whole.specs.Sums.{item}
use Rattle.answers.proofs.Verdicts.{taken, left}
use Rattle.answers.specs.declared.Answer.{Answer}
use Rattle.whole.specs.Grid.{in_block}
use Rattle.whole.proofs.Cells.{under, cell-column}
use Rattle.whole.proofs.Fill.{length-tab, tab-at}
use Rattle.whole.proofs.Tests.{both}
use Rattle.verdicts.specs.Verdicts.{w_of, h_of, add_verdict}
use Rattle.pixels.specs.Calls.{strict, added, add_of}
use Rattle.pixels.specs.Pixels.{residual_at, pixel_of}
use Rattle.screen.specs.Planes.{stands_of, block_stands, block_of, from_on}
use Rattle.screen.proofs.Planes.{stands-is}

-- two lists behind the same one
append-same : (xs ys zs : List ℤ) (i : ℕ) → ((j : ℕ) → i ≡ length xs + j → item ys j ≡ item zs j) → item (xs ++ ys) i ≡ item (xs ++ zs) i
append-same [] ys zs i f = f i (sym (N.zero-add i))
append-same (x ∷ xs) ys zs zero f = refl
append-same (x ∷ xs) ys zs (suc i) f = append-same xs ys zs i (λ j e. f j (ap suc e ∙ sym (N.suc-add (length xs) j)))

second-false : {A : Type 0} (a b : Bool) (u v : A) → b ≡ false → cond (a && b) u v ≡ v
second-false true b u v e = ap (λ (z : Bool). cond z u v) e
second-false false b u v e = refl

module _ (p : List ℤ) (t w h r c : ℕ) (cs : List ℤ) (y x d i : ℕ) (wide : w ≤ t) (pad : w ≤ i % t) where
  abbrev start : ℕ
  start = r * t + c

  abbrev rest : List ℤ
  rest = drop start p

  abbrev drawn : List ℤ
  drawn = added false rest t cs y x d

  -- sample k of what is drawn
  abbrev cell : ℕ → ℤ
  cell k = cond (in_block t (w_of x) (h_of x) k) (pixel_of d (item rest k) (residual_at false x y d cs (k / t) (k % t))) (item rest k)

  -- a sample of the pad stands beside the block
  beside : c + w_of x ≤ w → (j : ℕ) → i ≡ start + j → ltb (j % t) (w_of x) ≡ false
  beside fit j e = go (ltb (j % t) (w_of x)) refl
    where
      go : (b : Bool) → ltb (j % t) (w_of x) ≡ b → b ≡ false
      go false q = refl
      go true q =
          let near : j % t < w_of x = ltb→lt (j % t) (w_of x) (rw q tt) in
          let column : c + j % t < t = omega (arith, near, fit, wide) in
          let place : i ≡ (r + j / t) * t + (c + j % t) = omega (arith, e, N.add-mul r (j / t) t, N.div-add-mod' j t) in
          absurd (omega (arith, pad, near, fit, ap (λ (k : ℕ). k % t) place, cell-column (r + j / t) column))

  kept : c + w_of x ≤ w → item (take start p ++ drawn) i ≡ item p i
  kept fit = append-same (take start p) drawn rest i at ∙ ap (λ l. item l i) (take-append-drop start p)
    where
      at : (j : ℕ) → i ≡ length (take start p) + j → item drawn j ≡ item rest j
      at j e = by_length (under (length rest) j)
        where
          by_length : (length rest ≤ j) ⊎ (j < length rest) → item drawn j ≡ item rest j
          by_length (inl q) =
              get_or-eq_default drawn (pos 0) (N.le_trans (N.le_of_eq (length-tab (length rest) cell)) q)
              ∙ sym (get_or-eq_default rest (pos 0) q)
          by_length (inr q) =
              let room : start ≤ length p = omega (arith, length-drop start p) in
              tab-at (pos 0) (length rest) cell j q
              ∙ second-false (ltb (j / t) (h_of x)) (ltb (j % t) (w_of x)) _ _ (beside fit j (e ∙ ap (λ n. n + j) (length-take-le start p room)))

  pub pad-block : item (block_of p t w h r c cs y x d).1 i ≡ item p i
  unfolding block_of add_of
  pad-block = go (block_stands w h r c x) refl
    where
      go : (b : Bool) → block_stands w h r c x ≡ b → item (cond b (from_on start p (add_of strict rest t cs y x d)) ((add_of strict [] t cs y x d).0, p)).1 i ≡ item p i
      go false e = refl
      go true e = by_answer (ℕ_discrete (add_verdict true rest t cs y x d).number 0)
        where
          fit : c + w_of x ≤ w
          fit = (stands-is w h r c (w_of x) (h_of x) (both (leb x 24) (stands_of w h r c (w_of x) (h_of x)) e).1).0

          by_answer : Dec ((add_verdict true rest t cs y x d).number ≡ 0) → item (take start p ++ (add_of strict rest t cs y x d).1) i ≡ item p i
          by_answer (yes z) =
              ap (λ (a : Answer × List ℤ). item (take start p ++ a.1) i) (taken {A = List ℤ} (add_verdict true rest t cs y x d) rest drawn z) ∙ kept fit
          by_answer (no ne) =
              ap (λ l. item (take start p ++ l) i) (left {A = List ℤ} (add_verdict true rest t cs y x d) rest drawn ne) ∙ ap (λ l. item l i) (take-append-drop start p)
