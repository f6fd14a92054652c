-- A taken step is undone exactly, the undo accepted; and an undo redone. Assumes nothing.
--     undo-exact, redo-exact      the two, over all planes and arguments
--     step-outside, undo-outside  what either leaves outside its sixteen samples is what stood there
use mathlib.Core.Path.{◌≡◌, ap, ◌∙◌}
use mathlib.Core.List.{List, map}
use Prim.Native.Nat.{ℕ, ◌<◌}
use lib.IntN.{ℤ, pos, neg_ℤ, ◌+ℤ◌, +ℤ_invr, +ℤ_invl}
use lib.ListN.{length, get_or-map}
use Rattle.whole.specs.Sums.{item}
use Rattle.answers.specs.Answers.{done}
use Rattle.wht.specs.Wht.{iwht}
use Rattle.lossless.specs.Step.{Step, spot, sample, front, gain_of, step_of, undo_of}
use Rattle.lossless.proofs.Arguments.{fine, lies}
use Rattle.lossless.proofs.Calls.{accepted, same_length, same-elsewhere, there_and_back}

-- numbers g, and then numbers h that are their opposites
back-again : (p : List ℤ) (s : Step) (g h : ℕ → ℤ) → ((k : ℕ) → g k +ℤ h k ≡ pos 0) → (gain_of p s g).0.number ≡ 0 → gain_of (gain_of p s g).1 s h ≡ (done, p)
back-again p s g h o e =
    let f = front (length p) s in
    let ok = sample s.at.depth in
    let at = spot s.at in
    let d = (accepted f ok at p g e).0 in
    there_and_back f (front (length (gain_of p s g).1) s) ok at p g h o (lies (fine (length p) s d)) e (ap (λ (n : ℕ). (front n s).number) (same_length f ok at p g) ∙ d)

module _ (p : List ℤ) (s : Step) where
  opposite : (k : ℕ) → item (map neg_ℤ (iwht s.levels)) k ≡ neg_ℤ (item (iwht s.levels) k)
  opposite k = get_or-map neg_ℤ (iwht s.levels) k (pos 0)

  pub undo-exact : (step_of p s).0.number ≡ 0 → undo_of (step_of p s).1 s ≡ (done, p)
  undo-exact =
      back-again p s (item (iwht s.levels)) (item (map neg_ℤ (iwht s.levels)))
      (λ k. ap (λ z. item (iwht s.levels) k +ℤ z) (opposite k) ∙ +ℤ_invr (item (iwht s.levels) k))

  pub redo-exact : (undo_of p s).0.number ≡ 0 → step_of (undo_of p s).1 s ≡ (done, p)
  redo-exact =
      back-again p s (item (map neg_ℤ (iwht s.levels))) (item (iwht s.levels))
      (λ k. ap (λ z. z +ℤ item (iwht s.levels) k) (opposite k) ∙ +ℤ_invl (item (iwht s.levels) k))

  -- an index that is none of the sixteen, taken or refused
  module _ (i : ℕ) (other : (k : ℕ) → k < 16 → spot s.at k ≡ i → ⊥) where
    outside : (g : ℕ → ℤ) → item (gain_of p s g).1 i ≡ item p i
    outside g = same-elsewhere (front (length p) s) (sample s.at.depth) (spot s.at) p g i other

    pub step-outside : item (step_of p s).1 i ≡ item p i
    step-outside = outside (item (iwht s.levels))

    pub undo-outside : item (undo_of p s).1 i ≡ item p i
    undo-outside = outside (item (map neg_ℤ (iwht s.levels)))
