-- The samples of a step whose arguments are in range, by what was called in turn. Assumes nothing.
--     fronts, gains-small           what the arguments tell
--     samples-err, room-err         8 and 10, then 14
--     both-ok, roomy, addable       where neither applies, and what the work then asks for
use mathlib.Core.Path.{◌≡◌, sym, ap, ◌∙◌, subst}
use mathlib.Core.Bool.{false}
use mathlib.Core.List.{List}
use Prim.Native.Nat.{ℕ, ◌+◌, ◌*◌, ◌≤◌, ◌<◌}
use borrow.Author.Tests.{ltb-true}
use lib.Dec.{ltb}
use lib.IntN.{ℤ}
use lib.ListN.{length}
use Rattle.whole.specs.Sums.{item}
use Rattle.whole.proofs.Tests.{both}
use Rattle.answers.specs.declared.Answer.{Answer}
use Rattle.answers.specs.declared.Reason.{Reason}
use Rattle.answers.specs.Answers.{done, refused, unless}
use Rattle.answers.specs.Reasons.{answer_of}
use Rattle.answers.proofs.Verdicts.{passed, refuses}
use Rattle.wht.specs.Calls.{Sixteen}
use Rattle.wht.specs.Wht.{iwht}
use Rattle.lossless.specs.Bounds.{Addable}
use Rattle.lossless.specs.Gains.{samples}
use Rattle.lossless.specs.Step.{sample}
use Rattle.lossless.proofs.Adding.{sample-size, change-size}
use Rattle.lossless.proofs.Blocks.{passes}
use Rattle.remain.specs.Remaining.{count, number_before}
use Rattle.keeping.specs.Range.{Area, front_of}
use Rattle.keeping.proofs.Facts.{Shape, shape_is, Fronted, front-is}
use Rattle.history.specs.Calls.{Lent, spots, room, step_samples}
use Rattle.history.proofs.Parts.{then-stops, then-opens}

module _ (a : Area) (d r c : ℕ) (v : List ℤ) (m : Lent) where
  abbrev Judged : Answer
  Judged = samples (sample d) (spots a.stride r c) m.plane (item (iwht v))

  abbrev Room : Answer
  Room = unless (room m.steps) (refused 14 0 0) done

  pub samples-err : (q : Reason) → answer_of q ≡ Judged → answer_of q ≡ step_samples a d r c v m
  samples-err q e = e ∙ sym (then-stops Judged Room (λ z. refuses q (ap (λ (x : Answer). x.number) e ∙ z)))

  pub opened : done ≡ Judged → step_samples a d r c v m ≡ Room
  opened e = then-opens Judged Room (ap (λ (x : Answer). x.number) (sym e))

  pub roomy : done ≡ Room → (count m.steps < 4096) × (number_before m.steps (count m.steps) < 4294967295)
  roomy e =
      let n = count m.steps in
      let b = both (ltb n 4096) (ltb (number_before m.steps n) 4294967295) (passed (room m.steps) 13 0 0 done (ap (λ (x : Answer). x.number) (sym e))).0 in
      (ltb-true n 4096 b.0, ltb-true (number_before m.steps n) 4294967295 b.1)

  module _ (ok : (front_of a d r c v m.steps m.levels (length m.index)).number ≡ 0) where
    pub fronts : Fronted a d r c v m.steps m.levels (length m.index)
    fronts = front-is a d r c v m.steps m.levels (length m.index) ok

    pub shape : Shape a
    shape = shape_is a fronts.keeping.shape

    module _ (g : List ℤ) (e : g ≡ iwht v) where
      pub gains-small : Sixteen 1048576 g
      gains-small = subst (Sixteen 1048576) (sym e) (change-size false fronts.sixteen)

      pub addable : a.size ≡ length m.plane → done ≡ Judged → Addable m.plane (r * a.stride + c) a.stride g × (4 ≤ a.stride)
      addable long f =
          let at = spots a.stride r c in
          let t = passes (sample d) at m.plane (item (iwht v)) (ap (λ (x : Answer). x.number) (sym f)) in (
            record {
              reach = subst (λ (n : ℕ). r * a.stride + c + 3 * a.stride + 4 ≤ n) long fronts.stand.reach;
              small = λ k h. sample-size d (item m.plane (at k)) fronts.deep.1 (t.present k h);
              gains = gains-small;
            },
            shape.stride4,
          )
