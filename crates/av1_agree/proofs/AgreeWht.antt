-- The two definitions of the inverse WHT agree, for every list, refusals and places included. Assumes nothing.
-- The document tests every value that it stores. Once the inputs fit, all the others do, so that the call refuses for an input alone.
--     assigned-is      the document's assignments are document 01's inverse of four
--     Ended, line_on   lines that end without a refusal, one line at a time
--     wht-ended        the eight lines on sixteen numbers that fit
--     wht-agree        the whole call
use mathlib.Core.Path.{◌≡◌, refl, sym, ap, ◌∙◌, subst}
use mathlib.Core.Bool.{Bool, true, false, ◌&&◌, cond}
use mathlib.Core.List.{List, [], ◌∷◌, ◌++◌}
use Prim.Native.Nat.{ℕ, suc, ◌+◌, ◌-◌, ◌^◌, ◌≤◌, ◌<◌}
use native.Mathlib.Nat as N
use native.Mathlib.Omega.{arith}
use borrow.Author.Tests.{leb-true, eqb-true}
use lib.Dec.{eqb, leb}
use lib.IntN.{ℤ, pos, negsuc, neg_ℤ, nat_abs, ◌+ℤ◌, ◌-ℤ◌}
use lib.ListN.{length, get_or}
use lib.Pow.{pow-add, suc_ones}
use Rattle.whole.specs.Sums.{item}
use Rattle.answers.specs.declared.Answer.{Answer}
use Rattle.answers.specs.Answers.{done, refused, unless, searched, ends}
use Rattle.whole.specs.Numbers.{in_range, floor_div}
use Rattle.whole.specs.Search.{seek}
use Rattle.whole.proofs.Linear.{lin}
use Rattle.whole.proofs.Machine.{var, ◌⊕◌, ◌⊖◌}
use Rattle.whole.proofs.Search.{seek-passed}
use Rattle.whole.proofs.Tests.{both}
use Rattle.wht.specs.declared.blocks.Quad.{Quad}
use Rattle.wht.specs.declared.blocks.Block.{Block}
use Rattle.wht.specs.Wht.{fore_with, fore, swap, back, turn, back44, block, flat, iwht}
use Rattle.wht.proofs.Inverse.{flat_block}
use Rattle.av1.specs.Calls.{low, high, number_ok}
use Rattle.av1_wht.specs.Wht.{quarters, wht_verdict, wht_of}
use Rattle.av1_agree.specs.Document.{first_out}
use Rattle.av1_agree.specs.DocumentWht.{assigned, Line, line, rows_then_columns, result, stored, after_line, wht_runs, wht_log, wht_by_document}
use Rattle.av1_agree.proofs.Logged.{inputs-agree}
use Rattle.av1_agree.proofs.WhtRange.{odd, odd-in, odd-out, Fits, back_fits, quarter-fits}

abbrev list_of : Quad → List ℤ
list_of q = q.0 ∷ q.1 ∷ q.2 ∷ q.3 ∷ []

abbrev quarter : Quad → Quad
quarter o = (floor_div o.0 4, floor_div o.1 4, floor_div o.2 4, floor_div o.3 4)

-- ---- four numbers
module _ (p q r s : ℤ) where
  -- by the half e, which stands as an atom
  abbrev by_half : ℤ → List ℤ
  by_half e = ((p +ℤ q) -ℤ (e -ℤ s)) ∷ (e -ℤ s) ∷ (e -ℤ q) ∷ ((r -ℤ s) +ℤ (e -ℤ q)) ∷ []

  half-same : (e : ℤ) → by_half e ≡ list_of (swap (fore_with e (p, q, s, r)))
  half-same e =
      λ i. lin (var 0 ⊕ var 1 ⊖ (var 4 ⊖ var 3)) (var 0 ⊕ var 1 ⊕ var 3 ⊖ var 4) (p ∷ q ∷ r ∷ s ∷ e ∷ []) tt i ∷ (e -ℤ s) ∷ (e -ℤ q) ∷ lin ((var 2 ⊖ var 3) ⊕ (var 4 ⊖ var 1)) (var 2 ⊖ var 3 ⊕ var 4 ⊖ var 1) (p ∷ q ∷ r ∷ s ∷ e ∷ []) tt i ∷ []

  pub assigned-is : assigned p q r s ≡ list_of (back (p, q, r, s))
  unfolding fore
  assigned-is =
      half-same (floor_div ((p +ℤ q) -ℤ (r -ℤ s)) 2)
      ∙ ap (λ (z : ℤ). list_of (swap (fore_with (floor_div z 2) (p, q, s, r)))) (lin (var 0 ⊕ var 1 ⊖ (var 2 ⊖ var 3)) (var 0 ⊕ var 1 ⊕ var 3 ⊖ var 2) (p ∷ q ∷ r ∷ s ∷ []) tt)

floor-one : (z : ℤ) → floor_div z 1 ≡ z
floor-one (pos n) = ap pos (omega arith)
floor-one (negsuc n) = ap negsuc (omega arith)

-- a row's four numbers, and a column's
row_is : (o : Quad) → assigned (floor_div o.0 4) (floor_div o.1 4) (floor_div o.2 4) (floor_div o.3 4) ≡ list_of (back (quarter o))
row_is o = assigned-is (floor_div o.0 4) (floor_div o.1 4) (floor_div o.2 4) (floor_div o.3 4)

column-is : (o : Quad) → assigned (floor_div o.0 1) (floor_div o.1 1) (floor_div o.2 1) (floor_div o.3 1) ≡ list_of (back o)
column-is o =
    (λ i. assigned (floor-one o.0 i) (floor-one o.1 i) (floor-one o.2 i) (floor-one o.3 i))
    ∙ assigned-is o.0 o.1 o.2 o.3

-- ---- lines
pub record Ended (b : ℕ) (ls : List Line) (t u : List ℤ) : Type 0 where
  pub log : (k : ℕ) → first_out (negsuc b) (pos b) k (wht_log ls t) ≡ done
  pub end : wht_runs ls t ≡ u

four-fit : (b : ℕ) (q : Quad) (vs : List ℤ) → Fits b q → ((k : ℕ) → first_out (negsuc b) (pos b) k vs ≡ done) → (k : ℕ) → first_out (negsuc b) (pos b) k (list_of q ++ vs) ≡ done
unfolding first_out
four-fit b q vs f h k =
    rw (odd-out b q.0 f.f0, odd-out b q.1 f.f1, odd-out b q.2 f.f2, odd-out b q.3 f.f3) (h (suc (suc (suc (suc k)))))

module _ (b at by shift : ℕ) (ls : List Line) (t u : List ℤ) (q : Quad) (e : result t (line at by shift) ≡ list_of q) (f : Fits b q) where
  pub line_on : Ended b ls (stored t at by (list_of q)) u → Ended b (line at by shift ∷ ls) t u
  unfolding wht_log wht_runs after_line
  line_on n =
      record {
        log = λ k. subst (λ (l : List ℤ). first_out (negsuc b) (pos b) k (l ++ wht_log ls (stored t at by l)) ≡ done) (sym e) (four-fit b q (wht_log ls (stored t at by (list_of q))) f n.log k);
        end = ap (λ (l : List ℤ). wht_runs ls (stored t at by l)) e ∙ n.end;
      }

ended-now : (b : ℕ) (t : List ℤ) → Ended b [] t t
unfolding wht_log wht_runs first_out
ended-now b t = record { log = λ k. refl; end = refl }

-- a wider range
wider : {b c : ℕ} {q : Quad} → b ≤ c → Fits b q → Fits c q
wider h f = record { f0 = omega (arith, f.f0, h); f1 = omega (arith, f.f1, h); f2 = omega (arith, f.f2, h); f3 = omega (arith, f.f3, h) }

-- the eight lines on four rows that fit: b is that of the numbers divided
module _ (b : ℕ) (m : Block) where
  abbrev Top : ℕ
  Top = b + b + b + b + 3

  abbrev R : Block
  R = (back (quarter m.0), back (quarter m.1), back (quarter m.2), back (quarter m.3))

  abbrev Y : Block
  Y = turn R

  row_fits : (o : Quad) → Fits Top o → Fits (b + b + 1) (back (quarter o))
  row_fits o f = back_fits (record { f0 = quarter-fits b o.0 f.f0; f1 = quarter-fits b o.1 f.f1; f2 = quarter-fits b o.2 f.f2; f3 = quarter-fits b o.3 f.f3 })

  up : {q : Quad} → Fits (b + b + 1) q → Fits Top q
  up f = wider (omega arith) f

  top : {q : Quad} → Fits (b + b + 1 + (b + b + 1) + 1) q → Fits Top q
  top f = wider (omega arith) f

  pub lines_end : Fits Top m.0 → Fits Top m.1 → Fits Top m.2 → Fits Top m.3 → Ended Top rows_then_columns (flat m) (iwht (quarters (flat m)))
  unfolding result back44 iwht
  lines_end f0 f1 f2 f3 =
      let g0 = row_fits m.0 f0 in
      let g1 = row_fits m.1 f1 in
      let g2 = row_fits m.2 f2 in
      let g3 = row_fits m.3 f3 in
      line_on Top 0 1 2 _ _ _ R.0 (row_is m.0) (up g0)
      (line_on Top 4 1 2 _ _ _ R.1 (row_is m.1) (up g1)
      (line_on Top 8 1 2 _ _ _ R.2 (row_is m.2) (up g2)
      (line_on Top 12 1 2 _ _ _ R.3 (row_is m.3) (up g3)
      (line_on Top 0 4 0 _ _ _ (back Y.0) (column-is Y.0) (top (back_fits (record { f0 = g0.f0; f1 = g1.f0; f2 = g2.f0; f3 = g3.f0 })))
      (line_on Top 1 4 0 _ _ _ (back Y.1) (column-is Y.1) (top (back_fits (record { f0 = g0.f1; f1 = g1.f1; f2 = g2.f1; f3 = g3.f1 })))
      (line_on Top 2 4 0 _ _ _ (back Y.2) (column-is Y.2) (top (back_fits (record { f0 = g0.f2; f1 = g1.f2; f2 = g2.f2; f3 = g3.f2 })))
      (line_on Top 3 4 0 _ _ _ (back Y.3) (column-is Y.3) (top (back_fits (record { f0 = g0.f3; f1 = g1.f3; f2 = g2.f3; f3 = g3.f3 })))
      (ended-now Top _))))))))

-- ---- the ends of the range
module _ (bits : ℕ) (h : 16 ≤ bits) where
  abbrev Q : ℕ
  Q = 2 ^ (bits - 3) - 1

  power-is : 2 ^ (bits - 1) ≡ suc (Q + Q + Q + Q + 3)
  power-is =
      let e : bits - 1 ≡ 2 + (bits - 3) = omega arith in
      ap (λ (k : ℕ). 2 ^ k) e ∙ pow-add 2 2 (bits - 3) ∙ omega (arith, suc_ones (bits - 3))

  low-is : low bits ≡ negsuc (Q + Q + Q + Q + 3)
  low-is = ap (λ (k : ℕ). neg_ℤ (pos k)) power-is

  high_is : high bits ≡ pos (Q + Q + Q + Q + 3)
  high_is = ap pos (omega (arith, power-is))

-- ---- the whole call
module _ (bits : ℕ) (t : List ℤ) where
  abbrev Found : ℕ
  Found = seek (number_ok (low bits) (high bits) t) 0 16

  abbrev Log : List ℤ
  Log = wht_log rows_then_columns t

  pub wht-ended : 16 ≤ bits → length t ≡ 16 → 16 ≤ Found → (first_out (low bits) (high bits) 16 Log ≡ done) × (wht_runs rows_then_columns t ≡ iwht (quarters t))
  wht-ended h long found =
      let n = subst (λ (l : List ℤ). Ended (Q bits h + Q bits h + Q bits h + Q bits h + 3) rows_then_columns l (iwht (quarters l))) (flat_block t long) (lines_end (Q bits h) (block t) (row 0 (omega arith)) (row 4 (omega arith)) (row 8 (omega arith)) (row 12 (omega arith))) in
      (rw (low-is bits h, high_is bits h) (n.log 16), n.end)
    where
      at : (k : ℕ) → k < 16 → nat_abs (odd (item t k)) ≤ Q bits h + Q bits h + Q bits h + Q bits h + 3 + (Q bits h + Q bits h + Q bits h + Q bits h + 3) + 1
      at k l = odd-in (Q bits h + Q bits h + Q bits h + Q bits h + 3) (item t k) (subst (λ (p : ℤ × ℤ). in_range p.0 p.1 (item t k) ≡ true) (λ i. (low-is bits h i, high_is bits h i)) (seek-passed (number_ok (low bits) (high bits) t) 16 found k l))

      row : (k : ℕ) → k + 3 < 16 → Fits (Q bits h + Q bits h + Q bits h + Q bits h + 3) (get_or t k (pos 0), get_or t (k + 1) (pos 0), get_or t (k + 2) (pos 0), get_or t (k + 3) (pos 0))
      row k l = record { f0 = at k (omega arith); f1 = at (k + 1) (omega arith); f2 = at (k + 2) (omega arith); f3 = at (k + 3) (omega arith) }

  inputs-is : length t ≡ 16 → first_out (low bits) (high bits) 0 (t ++ Log) ≡ searched 15 0 16 (λ i. i) Found (first_out (low bits) (high bits) 16 Log)
  inputs-is long =
      inputs-agree (low bits) (high bits) (number_ok (low bits) (high bits) t) Log 0 t (λ i h. ap (number_ok (low bits) (high bits) t) (N.zero-add i))
      ∙ ap (λ (m : ℕ). searched 15 0 m (λ i. i) (seek (number_ok (low bits) (high bits) t) 0 (length t)) (first_out (low bits) (high bits) m Log)) (N.zero-add (length t))
      ∙ ap (λ (m : ℕ). searched 15 0 m (λ i. i) (seek (number_ok (low bits) (high bits) t) 0 m) (first_out (low bits) (high bits) m Log)) long

  pub wht-agree : wht_of bits t ≡ wht_by_document bits t
  unfolding wht_of wht_by_document wht_verdict
  wht-agree = by_bits (leb 16 bits && leb bits 20) refl
    where
      by-search : 16 ≤ bits → length t ≡ 16 → (b : Bool) → leb 16 Found ≡ b → ends (unless b (refused 15 0 Found) done) t (iwht (quarters t)) ≡ ends (unless b (refused 15 0 Found) (first_out (low bits) (high bits) 16 Log)) t (wht_runs rows_then_columns t)
      by-search h long true e =
          let n = wht-ended h long (leb-true 16 Found e) in
          sym (λ i. ends (n.0 i) t (n.1 i))
      by-search h long false e = refl

      by_length : 16 ≤ bits → (b : Bool) → eqb (length t) 16 ≡ b → ends (unless b (refused 6 1 0) (searched 15 0 16 (λ i. i) Found done)) t (iwht (quarters t)) ≡ cond b (ends (first_out (low bits) (high bits) 0 (t ++ Log)) t (wht_runs rows_then_columns t)) (refused 6 1 0, t)
      by_length h true e =
          let long = eqb-true (length t) 16 e in
          by-search h long (leb 16 Found) refl ∙ ap (λ (a : Answer). ends a t (wht_runs rows_then_columns t)) (sym (inputs-is long))
      by_length h false e = refl

      by_bits : (b : Bool) → (leb 16 bits && leb bits 20) ≡ b → ends (unless b (refused 1 0 0) (unless (eqb (length t) 16) (refused 6 1 0) (searched 15 0 16 (λ i. i) Found done))) t (iwht (quarters t)) ≡ cond b (cond (eqb (length t) 16) (ends (first_out (low bits) (high bits) 0 (t ++ Log)) t (wht_runs rows_then_columns t)) (refused 6 1 0, t)) (refused 1 0 0, t)
      by_bits true e = by_length (leb-true 16 bits (both (leb 16 bits) (leb bits 20) e).0) (eqb (length t) 16) refl
      by_bits false e = refl
