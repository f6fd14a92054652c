use lib.IntN.{pos}
use Rattle.whole.specs.Sums.{fold_at}
use Rattle.whole.proofs.Inward.{Inward}
use Rattle.tables.specs.Dense.{first_of}
use Rattle.tables.specs.Head.{even_at, odd_at}
use Rattle.rows.proofs.few.head.Given as goal

abbrev pub invariant-loop-m : goal.invariant-loop-m
invariant-loop-m l = Inward (pos 0) l.h l.initial.c (fold_at l.h (even_at l.h l.t (first_of l.live l.initial.c)) (odd_at l.h l.t (first_of l.live l.initial.c))) l.c l.m
