-- What the promises of the two calls give, from document 01, "How much each call owes". Assumes nothing.
--     add-outcome, float-outcome    two outcomes that the promise allows are the same
--     add_left, float-left          a refused call leaves the lent slice as it was
--     add-lanes, float_lanes        one lane and four lanes, which promise the same: the same answer, and the same slice left
use mathlib.Core.Path.{◌≡◌, ap}
use mathlib.Core.List.{List}
use Prim.Native.Nat.{ℕ}
use lib.Ieee
use lib.Ieee.{Float}
use lib.IntN.{ℤ}
use lib.ListN.{length}
use Rattle.answers.specs.declared.Answer.{Answer}
use Rattle.answers.proofs.Verdicts.{left, one-outcome}
use Rattle.verdicts.specs.Verdicts.{add_verdict, float_verdict}
use Rattle.pixels.specs.Calls.{Reading, added, add_of, filled, float_of}

-- ---- the add call
module _ (how : Reading) (dst : List ℤ) (stride : ℕ) (cs : List ℤ) (txtp tx depth : ℕ) where
  -- what the promise says of an outcome: the answer, and the plane afterwards
  abbrev pub Adds : Answer × List ℤ → Type 0
  Adds x = x ≡ add_of how dst stride cs txtp tx depth

  pub add-outcome : (x y : Answer × List ℤ) → Adds x → Adds y → x ≡ y
  add-outcome x y p q = one-outcome p q

  pub add_left : ((add_of how dst stride cs txtp tx depth).0.number ≡ 0 → ⊥) → (add_of how dst stride cs txtp tx depth).1 ≡ dst
  unfolding add_of
  add_left h = left {A = List ℤ} (add_verdict how.refuses dst stride cs txtp tx depth) dst (added how.rowwise dst stride cs txtp tx depth) h

  pub add-lanes : (one four : Answer) (plane plane' : List ℤ) → Adds (one, plane) → Adds (four, plane') → (one ≡ four) × (plane ≡ plane')
  add-lanes one four plane plane' p q =
      let e = add-outcome (one, plane) (four, plane') p q in
      (ap (λ (x : Answer × List ℤ). x.0) e, ap (λ (x : Answer × List ℤ). x.1) e)

-- ---- the float call
module _ (how : Reading) (out : List Float) (cs : List ℤ) (txtp tx depth : ℕ) (pred : List ℤ) where
  abbrev pub Fills : Answer × List Float → Type 0
  Fills x = x ≡ float_of how out cs txtp tx depth pred

  pub float-outcome : (x y : Answer × List Float) → Fills x → Fills y → x ≡ y
  float-outcome x y p q = one-outcome p q

  pub float-left : ((float_of how out cs txtp tx depth pred).0.number ≡ 0 → ⊥) → (float_of how out cs txtp tx depth pred).1 ≡ out
  unfolding float_of
  float-left h = left {A = List Float} (float_verdict how.refuses (length out) cs txtp tx depth pred) out (filled how.rowwise out cs txtp tx depth pred) h

  pub float_lanes : (one four : Answer) (output output' : List Float) → Fills (one, output) → Fills (four, output') → (one ≡ four) × (output ≡ output')
  float_lanes one four output output' p q =
      let e = float-outcome (one, output) (four, output') p q in
      (ap (λ (x : Answer × List Float). x.0) e, ap (λ (x : Answer × List Float). x.1) e)
