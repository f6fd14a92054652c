-- `passes::live::live_part` meets its contract: the lines are the rows or the columns, by the order of the coefficients. Assumes nothing.
use mathlib.Core.Path.{◌≡◌}
use Prim.Native.Nat.{ℕ, ◌+◌, ◌*◌, ◌/◌, ◌%◌, ◌≤◌}
use native.Mathlib.Omega.{arith}
use Rattle.passes.proofs.Living.{by_rows}
use Rattle.passes.proofs.live.live_part.Goals as goal

-- the rows, rounded up to a multiple of four
fours : ℕ → ℕ
fours n = (n + 3) / 4 * 4

fours-least : (n : ℕ) → n ≤ fours n
unfolding fours
fours-least n = omega arith

fours-most : (n m : ℕ) → n ≤ m → m % 4 ≡ 0 → fours n ≤ m
unfolding fours
fours-most n m h e = omega arith

fours-whole : (n : ℕ) → fours n % 4 ≡ 0
unfolding fours
fours-whole n = omega arith

pub returns-then-rowwise : goal.returns-then-rowwise
unfolding fours
returns-then-rowwise c =
    let n = c.live_lines-rows.result in (
      c.live_fours-across.ensures.0,
      fours-most n c.args.sh c.live_lines-rows.ensures.0 c.requires.5,
      fours-whole n,
      by_rows c.args.rowwise c.args.coeff.now c.args.sw c.args.sh c.live_fours-across.result n (fours n) c.if-rowwise.true (fours-least n) c.live_lines-rows.ensures.1 c.live_fours-across.ensures.2,
    )
