-- The refusals 5 and 12, and what follows. Assumes nothing.
--     kept-stops, kept-opens         by the two tests
use mathlib.Core.Path.{◌≡◌, refl, ◌∙◌}
use mathlib.Core.Bool.{Bool, true, false}
use mathlib.Core.List.{List}
use Prim.Native.Nat.{ℕ}
use lib.IntN.{ℤ}
use Rattle.answers.specs.declared.Answer.{Answer}
use Rattle.answers.specs.Answers.{done, refused, unless}
use Rattle.answers.proofs.Verdicts.{opens, passed}
use Rattle.keeping.specs.Range.{Area, shaped, sound, kept}

module _ (a : Area) (s : List ℕ) (l : List ℤ) (k : ℕ) (rest : Answer) where
  pub kept-stops : ((kept a s l k done).number ≡ 0 → ⊥) → kept a s l k rest ≡ kept a s l k done
  kept-stops h = go (shaped a) (sound a s l k) h
    where
      go : (b c : Bool) → ((unless b (refused 5 0 0) (unless c (refused 12 0 0) done)).number ≡ 0 → ⊥)
          → unless b (refused 5 0 0) (unless c (refused 12 0 0) rest) ≡ unless b (refused 5 0 0) (unless c (refused 12 0 0) done)
      go true true h = absurd (h refl)
      go true false h = refl
      go false c h = refl

  pub kept-opens : (kept a s l k done).number ≡ 0 → kept a s l k rest ≡ rest
  kept-opens e =
      let t = passed (shaped a) 4 0 0 (unless (sound a s l k) (refused 12 0 0) done) e in
      let u = passed (sound a s l k) 11 0 0 done t.1 in
      opens (refused 5 0 0) (unless (sound a s l k) (refused 12 0 0) rest) t.0 ∙ opens (refused 12 0 0) rest u.0
