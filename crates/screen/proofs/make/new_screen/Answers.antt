-- `new_screen` meets its contract: the samples are the first of the room. Assumes nothing.
use mathlib.Core.Path.{◌≡◌, refl, sym, ap, ◌∙◌, subst}
use mathlib.Core.List.{◌++◌}
use Prim.Native.Nat.{ℕ, ◌+◌, ◌-◌, ◌^◌}
use native.Mathlib.Nat.{le_trans}
use native.Mathlib.Omega.{arith}
use lib.IntN.{pos}
use lib.ListN.{take, drop}
use lib.Seq.{length-take-le}
use mir.Syntax.{w32}
use mir.Val.{to_z, of_z}
use Rattle.whole.specs.Sums.{tab}
use Rattle.whole.proofs.Num.{back}
use Rattle.screen.specs.Planes.{fresh_of}
use Rattle.screen.proofs.Tails.{front-back}
use Rattle.screen.proofs.make.new_screen.Goals as goal

pub slice_bounds-blank-end-2 : goal.slice_bounds-blank-end-2
slice_bounds-blank-end-2 c = sym (length-take-le _ c.args.room.now (le_trans c.samples-n.ensures.most c.requires.6))

pub returns : goal.returns
returns c =
    let q = c.args in
    let t = q.width + q.pad in
    let k = c.samples-n.result in
    let fit = length-take-le k q.room.now (le_trans c.samples-n.ensures.most c.requires.6) in record {
      sound = record { wide = omega arith; narrow = c.requires.1; long = omega (arith, c.requires.1, c.requires.5); high = c.requires.2; deep = c.requires.4 };
      sides = (refl, refl, refl, refl);
      blank = subst (λ (n : ℕ). take n (c.blank.new.list ++ drop k q.room.now) ≡ tab n (fresh_of t q.width (pos (2 ^ (q.depth - 1))))) c.samples-n.ensures.count
          (front-back k q.room.now c.blank.new.list (c.blank.auto.list ∙ fit)
          ∙ c.blank.ensures
          ∙ ap (λ n. tab n (fresh_of t q.width (to_z w32 (of_z w32 c.grey.result)))) fit
          ∙ ap (λ z. tab k (fresh_of t q.width z)) (back c.grey.type_inv ∙ c.grey.ensures));
    }
