-- The pad stays as it was. Assumes nothing.
--     pad-apart              no sample of a block that fits stands in the pad
--     pad-step, pad-undo     a step and an undo, taken or refused, leave what stood in the pad
--     pad-calls              and so does any row of steps and undos
use mathlib.Core.Path.{◌≡◌, refl, sym, ap, ◌∙◌}
use mathlib.Core.Bool.{Bool, true, false, cond}
use mathlib.Core.List.{List, [], ◌∷◌, map}
use Prim.Native.Nat.{ℕ, ◌+◌, ◌*◌, ◌/◌, ◌%◌, ◌<◌}
use native.Mathlib.Nat as N
use native.Mathlib.Decide.{ℕ_discrete}
use native.Mathlib.Omega.{arith}
use lib.IntN.{ℤ, neg_ℤ}
use lib.ListN.{length}
use Rattle.whole.specs.Sums.{item}
use Rattle.whole.proofs.Cells.{cell-column}
use Rattle.wht.specs.Wht.{iwht}
use Rattle.lossless.specs.Step.{Step, spot, sample, front, gain_of, step_of, undo_of}
use Rattle.lossless.specs.History.{after}
use Rattle.lossless.specs.Pad.{InPad, Call, call_of, InPads, none, more}
use Rattle.lossless.proofs.Arguments.{Fine, fine, width_is, column-is}
use Rattle.lossless.proofs.Calls.{accepted, refused-is, same-elsewhere}

pub pad-apart : {n : ℕ} {s : Step} → Fine n s → (i : ℕ) → InPad s.at i → (k : ℕ) → k < 16 → spot s.at k ≡ i → ⊥
pad-apart {n} {s} f i h k l e =
    let w = s.at in
    let x = w.column + k % 4 in
    let c = column-is w n f.fit in
    let inside : x < w.width = omega (arith, c) in
    let narrow : x < w.stride = omega (arith, inside, (width_is w f.visible).1) in
    let place : spot w k ≡ (w.row + k / 4) * w.stride + x = omega (arith, N.add-mul w.row (k / 4) w.stride) in
    let at : i % w.stride ≡ x = ap (λ (j : ℕ). j % w.stride) (sym e ∙ place) ∙ cell-column (w.row + k / 4) narrow in
    omega (arith, h, inside, at)

module _ (p : List ℤ) (s : Step) (i : ℕ) (h : InPad s.at i) where
  pad-gain : (g : ℕ → ℤ) → item (gain_of p s g).1 i ≡ item p i
  pad-gain g = by_answer (ℕ_discrete (gain_of p s g).0.number 0)
    where
      by_answer : Dec ((gain_of p s g).0.number ≡ 0) → item (gain_of p s g).1 i ≡ item p i
      by_answer (yes e) = same-elsewhere (front (length p) s) (sample s.at.depth) (spot s.at) p g i (pad-apart (fine (length p) s (accepted (front (length p) s) (sample s.at.depth) (spot s.at) p g e).0) i h)
      by_answer (no e) = ap (λ (q : List ℤ). item q i) (refused-is (front (length p) s) (sample s.at.depth) (spot s.at) p g e)

  pub pad-step : item (step_of p s).1 i ≡ item p i
  pad-step = pad-gain (item (iwht s.levels))

  pub pad-undo : item (undo_of p s).1 i ≡ item p i
  pad-undo = pad-gain (item (map neg_ℤ (iwht s.levels)))

pad-call : (p : List ℤ) (c : Call) (i : ℕ) → InPad c.step.at i → item (call_of p c).1 i ≡ item p i
pad-call p c i h = by_kind c.undo
  where
    by_kind : (u : Bool) → item (cond u (undo_of p c.step) (step_of p c.step)).1 i ≡ item p i
    by_kind true = pad-undo p c.step i h
    by_kind false = pad-step p c.step i h

pub pad-calls : (p : List ℤ) (cs : List Call) (i : ℕ) → InPads i cs → item (after call_of p cs) i ≡ item p i
unfolding after
pad-calls p [] i none = refl
pad-calls p (c ∷ cs) i (more h t) = pad-call (after call_of p cs) c i h ∙ pad-calls p cs i t
