-- Every call answers every input: its promise is one equation with a definition that has a value everywhere. Of each call, over that definition:
--     ..-keeps    a refused call leaves every lent slice as it was
--     ..-one      two outcomes that the promise allows are the same
-- The add call and the float call promise the same with one lane and with four, and their pairs are stated for every way of taking coefficients at once, so that the
-- seven pairs serve seventeen calls. From document 01, "Refusal numbers" and "How much each call owes", and document 02, sections 1 and 5. Assumes nothing.
use mathlib.Core.List.{List, map}
use Prim.Native.Nat.{ℕ}
use lib.Ieee
use lib.Ieee.{Float}
use lib.IntN.{ℤ, pos, neg_ℤ}
use lib.ListN.{length}
use Rattle.whole.specs.Sums.{item}
use Rattle.answers.proofs.Verdicts.{left}
use Rattle.pixels.specs.Calls.{Reading, add_of, float_of}
use Rattle.pixels.proofs.Outcomes.{add-outcome, add_left, float-outcome, float-left}
use Rattle.chroma.specs.Chroma.{cctx_of}
use Rattle.chroma.proofs.Outcomes.{refused-leaves, same_outcome}
use Rattle.wht.specs.Wht.{fwht, iwht}
use Rattle.wht.specs.Calls.{verdict, fwht_of, iwht_of}
use Rattle.wht.proofs.Outcomes.{fwht-outcome, iwht-outcome}
use Rattle.lossless.specs.Step.{Step, spot, sample, front, gain_of, step_of, undo_of}
use Rattle.lossless.proofs.Calls.{refused-is}
use Rattle.lossless.proofs.Outcomes.{step-outcome, undo-outcome}
use Rattle.claims.specs.Outcomes.{Keeps, One}

-- ---- pixels
module _ (how : Reading) (dst : List ℤ) (stride : ℕ) (cs : List ℤ) (txtp tx depth : ℕ) where
  pub add-keeps : Keeps (add_of how dst stride cs txtp tx depth) dst
  add-keeps = add_left how dst stride cs txtp tx depth

  pub add-one : One (add_of how dst stride cs txtp tx depth)
  add-one = add-outcome how dst stride cs txtp tx depth

module _ (how : Reading) (out : List Float) (cs : List ℤ) (txtp tx depth : ℕ) (pred : List ℤ) where
  pub float-keeps : Keeps (float_of how out cs txtp tx depth pred) out
  float-keeps = float-left how out cs txtp tx depth pred

  pub float_one : One (float_of how out cs txtp tx depth pred)
  float_one = float-outcome how out cs txtp tx depth pred

-- ---- chroma pairs
module _ (u v : List ℤ) (s c : ℤ) (depth : ℕ) where
  pub cctx-keeps : Keeps (cctx_of u v s c depth) (u, v)
  cctx-keeps = refused-leaves s c depth u v

  pub cctx-one : One (cctx_of u v s c depth)
  cctx-one = same_outcome s c depth u v

-- ---- the WHT
module _ (resid level : List ℤ) where
  pub fwht-keeps : Keeps (fwht_of resid level) level
  unfolding fwht_of
  fwht-keeps = left (verdict (neg_ℤ (pos 65535)) (pos 65535) resid (length level)) level (fwht resid)

  pub fwht-one : One (fwht_of resid level)
  fwht-one x y = fwht-outcome resid level

  pub iwht-keeps : Keeps (iwht_of level resid) resid
  unfolding iwht_of
  iwht-keeps = left (verdict (neg_ℤ (pos 262144)) (pos 262144) level (length resid)) resid (iwht level)

  pub iwht-one : One (iwht_of level resid)
  iwht-one x y = iwht-outcome level resid

-- ---- lossless steps
module _ (p : List ℤ) (s : Step) where
  gain-keeps : (g : ℕ → ℤ) → Keeps (gain_of p s g) p
  gain-keeps g = refused-is (front (length p) s) (sample s.at.depth) (spot s.at) p g

  pub step_keeps : Keeps (step_of p s) p
  step_keeps = gain-keeps (item (iwht s.levels))

  pub step-one : One (step_of p s)
  step-one x y = step-outcome p s

  pub undo-keeps : Keeps (undo_of p s) p
  undo-keeps = gain-keeps (item (map neg_ℤ (iwht s.levels)))

  pub undo-one : One (undo_of p s)
  undo-one x y = undo-outcome p s
