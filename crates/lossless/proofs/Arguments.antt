-- What the refusals 1, 5, 6 and 7 leave for the rest of a call. Assumes nothing.
--     stops1, is5, is_width, is6, is_fit, is7  the front by its tests, one after the other
--     Fine, fine, fine-ok, front-done      the tests pass exactly where the front's answer is Done
--     depth_is, stride-is, width_is, fit_is, column-is  the tests as facts on numbers
--     reach-ok                    where the front is Done, the block ends within the plane
--     lies                        the block's indices lie in the plane, and no two are the same
use mathlib.Core.Path.{◌≡◌, sym, ap, ◌∙◌, subst}
use mathlib.Core.Bool.{true, false, ◌&&◌}
use Prim.Native.Nat.{ℕ, ◌+◌, ◌*◌, ◌≤◌, ◌<◌}
use native.Mathlib.Nat as N
use native.Mathlib.Omega.{arith}
use borrow.Author.Tests.{leb-true, eqb-true, eq-eqb}
use lib.Dec.{leb, eqb, lit≤}
use lib.IntN.{pos, neg_ℤ}
use lib.ListN.{length}
use Rattle.whole.specs.Sums.{item}
use Rattle.answers.specs.declared.Answer.{Answer}
use Rattle.answers.specs.Answers.{done, refused, unless}
use Rattle.answers.proofs.Verdicts.{passed, opens, stops, search-passed, search-opens}
use Rattle.whole.specs.Search.{seek}
use Rattle.whole.proofs.Cells.{cell_apart}
use Rattle.whole.proofs.Range.{size-in-range}
use Rattle.whole.proofs.Search.{seek-all}
use Rattle.whole.proofs.Tests.{both}
use Rattle.wht.specs.Calls.{Sixteen, number_ok, outside}
use Rattle.wht.proofs.Lists.{all_small}
use Rattle.lossless.specs.Gains.{Lies}
use Rattle.lossless.specs.Step.{Where, Step, spot, deep, strides, widths, fits, front}
use Rattle.lossless.proofs.Adding.{cell_lies}

pub record Fine (n : ℕ) (s : Step) : Type 0 where
  pub depths : deep s.at ≡ true
  pub wide : strides s.at ≡ true
  pub visible : widths s.at ≡ true
  pub fit : fits s.at n ≡ true
  pub levels : Sixteen 262144 s.levels

module _ (n : ℕ) (s : Step) where
  -- what follows the tests of 1, 5 and 6
  abbrev pub from7 : Answer
  from7 = outside (neg_ℤ (pos 262144)) (pos 262144) s.levels

  abbrev pub from_fit : Answer
  from_fit = unless (fits s.at n) (refused 6 2 0) from7

  abbrev pub from6 : Answer
  from6 = unless (eqb (length s.levels) 16) (refused 6 1 0) from_fit

  abbrev pub from_width : Answer
  from_width = unless (widths s.at) (refused 5 0 0) from6

  abbrev pub from5 : Answer
  from5 = unless (strides s.at) (refused 5 0 0) from_width

  pub stops1 : deep s.at ≡ false → front n s ≡ refused 1 0 0
  unfolding front
  stops1 e = stops (refused 1 0 0) from5 e

  pub is5 : deep s.at ≡ true → front n s ≡ from5
  unfolding front
  is5 e = opens (refused 1 0 0) from5 e

  pub is_width : deep s.at ≡ true → strides s.at ≡ true → front n s ≡ from_width
  is_width d e = is5 d ∙ opens (refused 5 0 0) from_width e

  pub is6 : deep s.at ≡ true → strides s.at ≡ true → widths s.at ≡ true → front n s ≡ from6
  is6 d t e = is_width d t ∙ opens (refused 5 0 0) from6 e

  pub is_fit : deep s.at ≡ true → strides s.at ≡ true → widths s.at ≡ true → length s.levels ≡ 16 → front n s ≡ from_fit
  is_fit d t v c = is6 d t v ∙ opens (refused 6 1 0) from_fit (eq-eqb (length s.levels) 16 c)

  pub is7 : deep s.at ≡ true → strides s.at ≡ true → widths s.at ≡ true → length s.levels ≡ 16 → fits s.at n ≡ true → front n s ≡ from7
  is7 d t v c e = is_fit d t v c ∙ opens (refused 6 2 0) from7 e

  pub fine : (front n s).number ≡ 0 → Fine n s
  unfolding front
  fine e =
      let a = passed (deep s.at) 0 0 0 from5 e in
      let b = passed (strides s.at) 4 0 0 from_width a.1 in
      let v = passed (widths s.at) 4 0 0 from6 b.1 in
      let c = passed (eqb (length s.levels) 16) 5 1 0 from_fit v.1 in
      let m = passed (fits s.at n) 5 2 0 from7 c.1 in
      let d = search-passed 6 1 16 (λ k. k) (seek (number_ok (neg_ℤ (pos 262144)) (pos 262144) s.levels) 0 16) done m.1 in
      record {
        depths = a.0;
        wide = b.0;
        visible = v.0;
        fit = m.0;
        levels = all_small 262144 (neg_ℤ (pos 262144)) (pos 262144) (lit≤ tt) (lit≤ tt) s.levels (eqb-true (length s.levels) 16 c.0) d.0;
      }

  pub fine-ok : done ≡ front n s → Fine n s
  fine-ok e = fine (ap (λ (x : Answer). x.number) (sym e))

  pub front-done : Fine n s → front n s ≡ done
  front-done f =
      is7 f.depths f.wide f.visible f.levels.count f.fit
      ∙ search-opens 7 1 16 (λ k. k) (seek (number_ok (neg_ℤ (pos 262144)) (pos 262144) s.levels) 0 16) done (N.le_of_eq (sym (seek-all _ 0 16 good)))
    where
      good : (k : ℕ) → k < 16 → number_ok (neg_ℤ (pos 262144)) (pos 262144) s.levels k ≡ true
      good k h = size-in-range 262143 (item s.levels k) (f.levels.small k (subst (λ (m : ℕ). k < m) (sym f.levels.count) h))

module _ (w : Where) where
  pub depth_is : deep w ≡ true → (8 ≤ w.depth) × (w.depth ≤ 12)
  depth_is e = let t = both (leb 8 w.depth) (leb w.depth 12) e in (leb-true 8 w.depth t.0, leb-true w.depth 12 t.1)

  pub stride-is : strides w ≡ true → (4 ≤ w.stride) × (w.stride ≤ 65536)
  stride-is e = let t = both (leb 4 w.stride) (leb w.stride 65536) e in (leb-true 4 w.stride t.0, leb-true w.stride 65536 t.1)

  pub width_is : widths w ≡ true → (4 ≤ w.width) × (w.width ≤ w.stride)
  width_is e = let t = both (leb 4 w.width) (leb w.width w.stride) e in (leb-true 4 w.width t.0, leb-true w.width w.stride t.1)

  module _ (n : ℕ) (e : fits w n ≡ true) where
    abbrev end : ℕ
    end = (w.row + 3) * w.stride + w.column + 4

    sides : (leb (w.column + 4) w.width ≡ true) × (leb end n ≡ true)
    sides = both (leb (w.column + 4) w.width) (leb end n) (both (leb w.row 65535) (leb (w.column + 4) w.width && leb end n) e).1

    pub fit_is : w.row * w.stride + w.column + 3 * w.stride + 4 ≤ n
    fit_is = omega (arith, leb-true end n sides.1, N.add-mul w.row 3 w.stride)

    pub column-is : w.column + 4 ≤ w.width
    column-is = leb-true (w.column + 4) w.width sides.0

pub reach-ok : (n : ℕ) (s : Step) → done ≡ front n s → s.at.row * s.at.stride + s.at.column + 3 * s.at.stride + 4 ≤ n
reach-ok n s e = fit_is s.at n (fine-ok n s e).fit

pub lies : {n : ℕ} {s : Step} → Fine n s → Lies (spot s.at) n
lies {n} {s} f =
    let start = s.at.row * s.at.stride + s.at.column in
    record {
      inside = λ k h. cell_lies start s.at.stride n (fit_is s.at n f.fit) k h;
      apart = λ j k h i. cell_apart start s.at.stride 4 (lit≤ tt) (stride-is s.at f.wide).0 j k;
    }
