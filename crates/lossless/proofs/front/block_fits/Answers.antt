-- `lossless::front::block_fits` meets its contract: the three tests, and no sum wraps. Assumes nothing.
use Prim.Native.Nat.{◌+◌, ◌*◌, ◌≤◌, ◌<◌}
use native.Mathlib.Nat.{mul-le-mul}
use native.Mathlib.Omega.{arith}
use borrow.Author.Tests.{le-leb, lt-leb}
use Rattle.lossless.proofs.front.block_fits.Goals as goal

product : (c : goal.Else-width-column) → let s = c.before.before in (s.args.row + 3) * s.args.stride ≤ 65538 * 65536
product c = let s = c.before.before in let h : s.args.row + 3 ≤ 65538 = omega arith in mul-le-mul h s.requires.2

pub returns-then-row-gt65535 : goal.returns-then-row-gt65535
returns-then-row-gt65535 c = rw (lt-leb c.args.row 65535 c.if-row-gt65535.true)

pub returns-then-width-column : goal.returns-then-width-column
returns-then-width-column c =
    let s = c.before.before in
    let h : s.args.width < s.args.column + 4 = omega arith in
    rw (le-leb s.args.row 65535 c.if-row-gt65535.false, lt-leb (s.args.column + 4) s.args.width h)

pub overflow_mul-result : goal.overflow_mul-result
overflow_mul-result c = record { fits = omega (arith, product c) }

pub overflow_add-result-2 : goal.overflow_add-result-2
overflow_add-result-2 c = record { fits = omega (arith, product c) }

pub overflow_add-result-3 : goal.overflow_add-result-3
overflow_add-result-3 c = record { fits = omega (arith, product c) }

pub returns : goal.returns
returns c =
    let s = c.before.before in
    let h : s.args.column + 4 ≤ s.args.width = omega arith in
    rw (le-leb s.args.row 65535 c.if-row-gt65535.false, le-leb (s.args.column + 4) s.args.width h)
