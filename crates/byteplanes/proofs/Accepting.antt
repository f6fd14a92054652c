-- The verdict of the call on bytes, taken apart. Assumes nothing.
--     Narrow, narrow-passed, -opens, -stays, -err     refusals 1, 2 and 11: what an answer of Done tells, when they pass, that they don't depend on what follows
--     bytes-opens                               where refusals 1 to 4 and 11 pass, the rest is the verdict
--     Accepted, bytes-passed, bytes-done        what a verdict of Done tells of the whole call
use mathlib.Core.Path.{◌≡◌, refl, sym, ap, ◌∙◌}
use mathlib.Core.Bool.{Bool, ◌&&◌}
use mathlib.Core.List.{List}
use Prim.Native.Nat.{ℕ, ◌*◌, ◌≤◌}
use borrow.Author.Tests.{leb-true, le-leb, eqb-true, eq-eqb}
use lib.Dec.{eqb, leb}
use lib.IntN.{ℤ}
use lib.ListN.{length}
use Rattle.whole.proofs.Tests.{both}
use Rattle.answers.specs.declared.Answer.{Answer}
use Rattle.answers.specs.declared.Reason.{Reason}
use Rattle.answers.specs.Answers.{done, refused}
use Rattle.answers.specs.Reasons.{answer_of}
use Rattle.answers.proofs.Verdicts.{passed, stays, refuses}
use Rattle.tables.specs.Sizes.{cut, scaled}
use Rattle.passes.specs.Passes.{Scalable}
use Rattle.verdicts.specs.Verdicts.{w_of, h_of, on_plane, coefficients}
use Rattle.verdicts.proofs.Judging.{Kinds, kinds-passed, kinds-opens, Reach, plane-passed, coefficients-passed, coefficients-scalable}
use Rattle.byteplanes.specs.Bytes.{narrow, bytes_verdict}

pub record Narrow (tx depth : ℕ) : Type 0 where
  pub eight : depth ≡ 8
  pub size : tx ≤ 24
  pub across : w_of tx ≤ 32
  pub down : h_of tx ≤ 32

module _ (tx depth : ℕ) where
  pub narrow-passed : (rest : Answer) → (narrow tx depth rest).number ≡ 0 → Narrow tx depth × (rest.number ≡ 0)
  narrow-passed rest e =
      let a = passed (eqb depth 8) 0 0 0 _ e in
      let b = passed (leb tx 24) 1 0 0 _ a.1 in
      let c = passed (leb (w_of tx) 32 && leb (h_of tx) 32) 10 0 0 rest b.1 in
      let d = both (leb (w_of tx) 32) (leb (h_of tx) 32) c.0 in
      (record { eight = eqb-true depth 8 a.0; size = leb-true tx 24 b.0; across = leb-true (w_of tx) 32 d.0; down = leb-true (h_of tx) 32 d.1 }, c.1)

  pub narrow-opens : (rest : Answer) → Narrow tx depth → narrow tx depth rest ≡ rest
  narrow-opens rest n = rw (eq-eqb depth 8 n.eight, le-leb tx 24 n.size, le-leb (w_of tx) 32 n.across, le-leb (h_of tx) 32 n.down)

  pub narrow-stays : (rest : Answer) → ((narrow tx depth done).number ≡ 0 → ⊥) → narrow tx depth done ≡ narrow tx depth rest
  narrow-stays rest q =
      sym (stays (eqb depth 8) (refused 1 0 0) _ _ q (λ r.
      stays (leb tx 24) (refused 2 0 0) _ _ r (λ r.
      stays (leb (w_of tx) 32 && leb (h_of tx) 32) (refused 11 0 0) done rest r (λ r. absurd (r refl)))))

  -- a refusal by name stays what it is
  pub narrow-err : (rest : Answer) (r : Reason) → answer_of r ≡ narrow tx depth done → answer_of r ≡ narrow tx depth rest
  narrow-err rest r e = e ∙ narrow-stays rest (λ q. refuses r (ap (λ (a : Answer). a.number) e ∙ q))

module _ (refuses : Bool) (room stride : ℕ) (cs : List ℤ) (txtp tx depth : ℕ) where
  -- refusals 5 to 7
  abbrev pub onward : Answer
  onward = on_plane (w_of tx) (h_of tx) room stride (length cs) (coefficients refuses (w_of tx) (h_of tx) depth cs done)

  pub bytes-opens : Narrow tx depth → Kinds tx txtp depth → bytes_verdict refuses room stride cs txtp tx depth ≡ onward
  unfolding bytes_verdict
  bytes-opens n k = narrow-opens tx depth _ n ∙ kinds-opens tx txtp depth onward k

  pub record Accepted : Type 0 where
    pub narrow : Narrow tx depth
    pub kinds : Kinds tx txtp depth
    pub fits : Reach (w_of tx) (h_of tx) room stride (length cs)
    pub coefficients : Scalable (scaled (w_of tx) (h_of tx)) (cut (w_of tx) * cut (h_of tx)) cs

  pub bytes-passed : (bytes_verdict refuses room stride cs txtp tx depth).number ≡ 0 → Accepted
  unfolding bytes_verdict
  bytes-passed e =
      let n = narrow-passed tx depth _ e in
      let k = kinds-passed tx txtp depth onward n.1 in
      let p = plane-passed (w_of tx) (h_of tx) room stride (length cs) (coefficients refuses (w_of tx) (h_of tx) depth cs done) k.1 in
      let c = coefficients-passed refuses (w_of tx) (h_of tx) depth cs done p.1 in
      record { narrow = n.0; kinds = k.0; fits = p.0; coefficients = coefficients-scalable refuses (w_of tx) (h_of tx) depth cs k.0.to c.0 }

-- the same of a verdict that is Done
pub bytes-done : (refuses : Bool) (room stride : ℕ) (cs : List ℤ) (txtp tx depth : ℕ) → done ≡ bytes_verdict refuses room stride cs txtp tx depth → Accepted refuses room stride cs txtp tx depth
bytes-done refuses room stride cs txtp tx depth e = bytes-passed refuses room stride cs txtp tx depth (ap (λ (a : Answer). a.number) (sym e))
