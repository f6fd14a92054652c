-- `rows::square::turn` meets its contract: the library's reversal, where it is asked for. Assumes nothing.
use mathlib.Core.Path.{◌≡◌, sym, ap, ◌∙◌}
use mathlib.Core.Bool.{Bool, true}
use mathlib.Core.List.{List, reverse}
use lib.IntN.{ℤ, pos}
use lib.ListN.{length, get_or}
use Rattle.std.proofs.lemmas.List.{length-reverse, get_or-reverse}
use Rattle.whole.specs.Sums.{tab, flipped}
use Rattle.whole.proofs.Fill.{tab-list, filled-all}
use Rattle.rows.proofs.square.turn.Goals as goal

-- in either order
abbrev ordered : Bool → List ℤ → List ℤ
ordered f l = tab (length l) (λ k. get_or l (flipped f (length l) k) (pos 0))

reversed : (l : List ℤ) → reverse l ≡ ordered true l
reversed l = filled-all (pos 0) (reverse l) (length l) (λ k. get_or l (flipped true (length l) k) (pos 0)) (length-reverse l) (λ k h. get_or-reverse l k (pos 0) h)

pub returns-then-flip : goal.returns-then-flip
returns-then-flip c = c.reverse.ensures.after ∙ reversed c.args.c.now ∙ ap (λ f. ordered f c.args.c.now) (sym c.if-flip.true)

pub returns-else-flip : goal.returns-else-flip
returns-else-flip c = sym (tab-list (pos 0) c.args.c.now) ∙ ap (λ f. ordered f c.args.c.now) (sym c.if-flip.false)
