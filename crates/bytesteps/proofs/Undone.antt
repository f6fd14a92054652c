-- Steps on bytes and their undoing: the wide theorems, read back. Assumes nothing.
--     step-undone, undo-redone       a taken step is undone exactly, the undo accepted; and an undo redone
--     step_left, undo-left           a refused call leaves what it found
--     bytes-history                  undoing any number of the newest taken steps brings back the plane that the oldest of them found
--     step-pad, undo-pad, pad-bytes  a call, and any row of calls, leaves what stood in the pad
use mathlib.Core.Path.{◌≡◌, refl, sym, ap, ◌∙◌}
use mathlib.Core.Bool.{Bool, true, false, cond}
use mathlib.Core.List.{List, [], ◌∷◌, map}
use Prim.Native.Nat.{ℕ, ◌≤◌}
use native.Mathlib.Decide.{ℕ_discrete}
use lib.IntN.{ℤ, pos, neg_ℤ, nat_abs}
use lib.ListN.{length, get_or, get_or-map}
use Rattle.whole.specs.Sums.{item}
use Rattle.answers.specs.declared.Answer.{Answer}
use Rattle.answers.specs.Answers.{done}
use Rattle.octets.proofs.Lists.{numbers-back}
use Rattle.wht.specs.Wht.{iwht}
use Rattle.lossless.specs.Step.{Step, spot, sample, front, step_of, undo_of}
use Rattle.lossless.specs.History.{after, trail, newest, found, Undoes}
use Rattle.lossless.specs.Pad.{InPad, Call, InPads, none, more}
use Rattle.lossless.proofs.Calls.{refused-is}
use Rattle.lossless.proofs.Undo.{undo-exact, redo-exact}
use Rattle.lossless.proofs.History.{back}
use Rattle.lossless.proofs.Pad as wide
use Rattle.bytesteps.specs.Steps.{read_back, on_bytes, step_bytes, undo_bytes, call_bytes}
use Rattle.bytesteps.proofs.Widened.{at-eight, other-depth, eight_is, step_back, undo-back}

-- a call f, and g that takes it back exactly
module _ (f g : List ℤ → Step → Answer × List ℤ) (b : List ℕ) (s : Step) where
  exact : map pos (map nat_abs (f (map pos b) s).1) ≡ (f (map pos b) s).1 → ((f (map pos b) s).0.number ≡ 0 → g (f (map pos b) s).1 s ≡ (done, map pos b))
      → (on_bytes f b s).0.number ≡ 0 → on_bytes g (on_bytes f b s).1 s ≡ (done, b)
  exact r t e =
      let q = eight_is f b s e in
      let is = at-eight f b s q in
      ap (λ (x : Answer × List ℕ). on_bytes g x.1 s) is
      ∙ at-eight g (map nat_abs (f (map pos b) s).1) s q
      ∙ ap (λ (p : List ℤ). read_back (g p s)) r
      ∙ ap read_back (t (ap (λ (x : Answer × List ℕ). x.0.number) (sym is) ∙ e))
      ∙ ap (λ (l : List ℕ). (done, l)) (numbers-back b)

-- a refused call, and a sample that the wide call leaves
module _ (f : List ℤ → Step → Answer × List ℤ) (b : List ℕ) (s : Step) where
  left : (((f (map pos b) s).0.number ≡ 0 → ⊥) → (f (map pos b) s).1 ≡ map pos b) → ((on_bytes f b s).0.number ≡ 0 → ⊥) → (on_bytes f b s).1 ≡ b
  left k h = by-depth (ℕ_discrete s.at.depth 8)
    where
      by-depth : Dec (s.at.depth ≡ 8) → (on_bytes f b s).1 ≡ b
      by-depth (yes e) =
          let is = at-eight f b s e in
          ap (λ (x : Answer × List ℕ). x.1) is ∙ ap (map nat_abs) (k (λ q. h (ap (λ (x : Answer × List ℕ). x.0.number) is ∙ q))) ∙ numbers-back b
      by-depth (no e) = ap (λ (x : Answer × List ℕ). x.1) (other-depth f b s e)

  still : (i : ℕ) → item (f (map pos b) s).1 i ≡ item (map pos b) i → get_or (on_bytes f b s).1 i 0 ≡ get_or b i 0
  still i h = by-depth (ℕ_discrete s.at.depth 8)
    where
      by-depth : Dec (s.at.depth ≡ 8) → get_or (on_bytes f b s).1 i 0 ≡ get_or b i 0
      by-depth (yes e) = ap (λ (x : Answer × List ℕ). get_or x.1 i 0) (at-eight f b s e) ∙ get_or-map nat_abs (f (map pos b) s).1 i (pos 0) ∙ ap nat_abs (h ∙ get_or-map pos b i 0)
      by-depth (no e) = ap (λ (x : Answer × List ℕ). get_or x.1 i 0) (other-depth f b s e)

module _ (b : List ℕ) (s : Step) where
  pub step-undone : (step_bytes b s).0.number ≡ 0 → undo_bytes (step_bytes b s).1 s ≡ (done, b)
  step-undone = exact step_of undo_of b s (step_back b s) (undo-exact (map pos b) s)

  pub undo-redone : (undo_bytes b s).0.number ≡ 0 → step_bytes (undo_bytes b s).1 s ≡ (done, b)
  undo-redone = exact undo_of step_of b s (undo-back b s) (redo-exact (map pos b) s)

  pub step_left : ((step_bytes b s).0.number ≡ 0 → ⊥) → (step_bytes b s).1 ≡ b
  step_left = left step_of b s (refused-is (front (length (map pos b)) s) (sample s.at.depth) (spot s.at) (map pos b) (item (iwht s.levels)))

  pub undo-left : ((undo_bytes b s).0.number ≡ 0 → ⊥) → (undo_bytes b s).1 ≡ b
  undo-left = left undo_of b s (refused-is (front (length (map pos b)) s) (sample s.at.depth) (spot s.at) (map pos b) (item (map neg_ℤ (iwht s.levels))))

pub bytes-history : (b : List ℕ) (ts : List Step) (k : ℕ) → k ≤ length (trail step_bytes b ts)
    → Undoes undo_bytes (after step_bytes b ts) (newest k (trail step_bytes b ts)) (found (after step_bytes b ts) (trail step_bytes b ts) k)
bytes-history = back step_bytes undo_bytes step_left step-undone

-- ---- the pad
module _ (b : List ℕ) (s : Step) (i : ℕ) (h : InPad s.at i) where
  pub step-pad : get_or (step_bytes b s).1 i 0 ≡ get_or b i 0
  step-pad = still step_of b s i (wide.pad-step (map pos b) s i h)

  pub undo-pad : get_or (undo_bytes b s).1 i 0 ≡ get_or b i 0
  undo-pad = still undo_of b s i (wide.pad-undo (map pos b) s i h)

call-pad : (b : List ℕ) (c : Call) (i : ℕ) → InPad c.step.at i → get_or (call_bytes b c).1 i 0 ≡ get_or b i 0
call-pad b c i h = by_kind c.undo
  where
    by_kind : (u : Bool) → get_or (cond u (undo_bytes b c.step) (step_bytes b c.step)).1 i 0 ≡ get_or b i 0
    by_kind true = undo-pad b c.step i h
    by_kind false = step-pad b c.step i h

pub pad-bytes : (b : List ℕ) (cs : List Call) (i : ℕ) → InPads i cs → get_or (after call_bytes b cs) i 0 ≡ get_or b i 0
unfolding after
pad-bytes b [] i none = refl
pad-bytes b (c ∷ cs) i (more h t) = call-pad (after call_bytes b cs) c i h ∙ pad-bytes b cs i t
