-- `fast::block_rows::enter` meets its contract: the strides of each order lead to its numbers. Assumes nothing.
use mathlib.Core.Path.{◌≡◌, sym, ap, ◌∙◌, subst}
use mathlib.Core.List.{List}
use Prim.Native.Nat.{ℕ, ◌+◌, ◌*◌, ◌≤◌, ◌<◌}
use native.Mathlib.Nat as N
use native.Mathlib.Omega.{arith}
use lib.IntN.{ℤ, pos}
use lib.ListN.{get_or}
use Rattle.passes.specs.Passes.{entry, number_at}
use Rattle.fast.specs.Groups.{Loaded}
use Rattle.fast.proofs.Turned.{in_rows, in-columns}
use Rattle.whole.proofs.Cells.{cell_in}
use Rattle.fast.proofs.block_rows.enter.Goals as goal

-- the number of row r + l, column x lies in the block
inside : (sw sh r l x : ℕ) → r + l < sh → x < sw → (r + l) * sw + x < sw * sh
inside sw sh r l x a b = omega (arith, cell_in {r = r + l} {x = x} {w = sw} {h = sh} a b (N.le_refl (sh * sw)))

down : (sw sh r l x : ℕ) → r + l < sh → x < sw → r + l + x * sh < sw * sh
down sw sh r l x a b = omega (arith, cell_in {r = x} {x = r + l} {w = sh} {h = sw} b a (N.le_refl (sw * sh)))

less : (r l k sh : ℕ) → l < k → r + k ≤ sh → r + l < sh
less r l k sh a b = omega arith

-- rows of one order, whose numbers are at p
module _ {live k : ℕ} {f g : ℕ → ℕ → ℤ} {old new : List ℤ} (same : (l x : ℕ) → f l x ≡ g l x) where
  other : Loaded live k f old new → Loaded live k g old new
  other p = record { long = p.long; holds = λ l x a b. p.holds l x a b ∙ same l x; rest = p.rest }

pub load-requires : goal.load-requires
load-requires c =
    let n = c.args.sw * c.args.sh in
    let at : (l x : ℕ) → l < c.args.k → x < c.args.live → c.args.r * c.args.sw + x * 1 + l * c.args.sw < n = λ l x a b. subst (λ (z : ℕ). z < n) (sym (in_rows c.args.sw c.args.r l x)) (inside c.args.sw c.args.sh c.args.r l x (less c.args.r l c.args.k c.args.sh a c.requires.1) (N.lt_of_lt_of_le b c.requires.0)) in
    record {
      k_nonzero = (c.requires.2, c.requires.3, omega (arith, c.requires.0, c.requires.4));
      by_index = λ l x a b. (N.lt_of_lt_of_le (at l x a b) c.requires.5, c.requires.6 _ (at l x a b));
    }

pub load-requires-else-rowwise : goal.load-requires-else-rowwise
load-requires-else-rowwise c =
    let n = c.args.sw * c.args.sh in
    let at : (l x : ℕ) → l < c.args.k → x < c.args.live → c.args.r * 1 + x * c.args.sh + l * 1 < n = λ l x a b. subst (λ (z : ℕ). z < n) (sym (in-columns c.args.sh c.args.r l x)) (down c.args.sw c.args.sh c.args.r l x (less c.args.r l c.args.k c.args.sh a c.requires.1) (N.lt_of_lt_of_le b c.requires.0)) in
    record {
      k_nonzero = (c.requires.2, c.requires.3, omega (arith, c.requires.0, c.requires.4));
      by_index = λ l x a b. (N.lt_of_lt_of_le (at l x a b) c.requires.5, c.requires.6 _ (at l x a b));
    }

pub returns-then-rowwise : goal.returns-then-rowwise
returns-then-rowwise c =
    other (λ l x. ap (λ i. entry c.args.scale 8 (get_or c.args.coeff.now i (pos 0))) (in_rows c.args.sw c.args.r l x ∙ ap (λ o. number_at o c.args.sw c.args.sh (c.args.r + l) x) (sym c.if-rowwise.true))) c.load.ensures

pub returns-else-rowwise : goal.returns-else-rowwise
returns-else-rowwise c =
    other (λ l x. ap (λ i. entry c.args.scale 8 (get_or c.args.coeff.now i (pos 0))) (in-columns c.args.sh c.args.r l x ∙ ap (λ o. number_at o c.args.sw c.args.sh (c.args.r + l) x) (sym c.if-rowwise.false))) c.load-else-rowwise.ensures
