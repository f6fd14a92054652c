-- What the promise of the call on bytes gives, from document 01, "How much each call owes". Assumes nothing.
--     bytes-outcome      two outcomes that the promise allows are the same
--     bytes_left         a refused call leaves the lent slice as it was
--     bytes-lanes        one lane and four lanes, which promise the same: the same answer, and the same bytes left
use mathlib.Core.Path.{◌≡◌, ap}
use mathlib.Core.List.{List, map}
use Prim.Native.Nat.{ℕ}
use lib.IntN.{ℤ, pos, nat_abs}
use lib.ListN.{length}
use Rattle.answers.specs.declared.Answer.{Answer}
use Rattle.answers.proofs.Verdicts.{left, one-outcome}
use Rattle.pixels.specs.Calls.{Reading, added}
use Rattle.byteplanes.specs.Bytes.{bytes_verdict, bytes_of}

module _ (how : Reading) (dst : List ℕ) (stride : ℕ) (cs : List ℤ) (txtp tx depth : ℕ) where
  -- what the promise says of an outcome: the answer, and the plane afterwards
  abbrev pub AddsBytes : Answer × List ℕ → Type 0
  AddsBytes x = x ≡ bytes_of how dst stride cs txtp tx depth

  pub bytes-outcome : (x y : Answer × List ℕ) → AddsBytes x → AddsBytes y → x ≡ y
  bytes-outcome x y p q = one-outcome p q

  pub bytes_left : ((bytes_of how dst stride cs txtp tx depth).0.number ≡ 0 → ⊥) → (bytes_of how dst stride cs txtp tx depth).1 ≡ dst
  unfolding bytes_of
  bytes_left h = left {A = List ℕ} (bytes_verdict how.refuses (length dst) stride cs txtp tx depth) dst (map nat_abs (added how.rowwise (map pos dst) stride cs txtp tx depth)) h

  pub bytes-lanes : (one four : Answer) (plane plane' : List ℕ) → AddsBytes (one, plane) → AddsBytes (four, plane') → (one ≡ four) × (plane ≡ plane')
  bytes-lanes one four plane plane' p q =
      let e = bytes-outcome (one, plane) (four, plane') p q in
      (ap (λ (x : Answer × List ℕ). x.0) e, ap (λ (x : Answer × List ℕ). x.1) e)
