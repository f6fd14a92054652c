-- `wide::dct::lines` meets its contract. Assumes nothing.
use native.Mathlib.Omega.{arith}
use lib.Dec.{lit≤}
use Rattle.wide.proofs.Sizes.{at_size, only-32, quiet}
use Rattle.wide.proofs.dct.lines.Goals as goal

pub first16-requires : goal.first16-requires
first16-requires c =
    let e = c.in-16.is in
    (omega (arith, e, c.requires.1), omega (arith, e, c.requires.2), quiet c.args.w.now e c.if-live-le4.true c.requires.3)

pub first32-requires : goal.first32-requires
first32-requires c =
    let e = only-32 c.requires.0 c.in_default.in_default-own.rest.0.0.1 c.in_default.in_default-own.rest.0.1 c.in_default.in_default-own.rest.1 in
    (omega (arith, e, c.requires.1), omega (arith, e, c.requires.2), quiet c.args.w.now e c.if-live-le4-2.true c.requires.3)

pub dct32-requires : goal.dct32-requires
dct32-requires c =
    let e = only-32 c.requires.0 c.in_default.in_default-own.rest.0.0.1 c.in_default.in_default-own.rest.0.1 c.in_default.in_default-own.rest.1 in
    (omega (arith, e, c.requires.1), omega (arith, e, c.requires.2))

pub returns-in-4 : goal.returns-in-4
returns-in-4 c =
    at_size 1 c.args.w.now c.dct4.new.out (lit≤ tt) c.in-4.is c.dct4.ensures

pub returns-in-8 : goal.returns-in-8
returns-in-8 c =
    at_size 2 c.args.w.now c.dct8.new.out (lit≤ tt) c.in-8.is c.dct8.ensures

pub returns-then-live-le4 : goal.returns-then-live-le4
returns-then-live-le4 c =
    at_size 1 c.args.w.now c.first16.new.out (lit≤ tt) c.in-16.is c.first16.ensures

pub returns-else-live-le4 : goal.returns-else-live-le4
returns-else-live-le4 c =
    at_size 3 c.args.w.now c.dct16.new.out (lit≤ tt) c.in-16.is c.dct16.ensures

pub returns-then-live-le4-2 : goal.returns-then-live-le4-2
returns-then-live-le4-2 c =
    at_size 1 c.args.w.now c.first32.new.out (lit≤ tt) (only-32 c.requires.0 c.in_default.in_default-own.rest.0.0.1 c.in_default.in_default-own.rest.0.1 c.in_default.in_default-own.rest.1) c.first32.ensures

pub returns-else-live-le4-2 : goal.returns-else-live-le4-2
returns-else-live-le4-2 c =
    at_size 4 c.args.w.now c.dct32.new.out (lit≤ tt) (only-32 c.requires.0 c.in_default.in_default-own.rest.0.0.1 c.in_default.in_default-own.rest.0.1 c.in_default.in_default-own.rest.1) c.dct32.ensures
