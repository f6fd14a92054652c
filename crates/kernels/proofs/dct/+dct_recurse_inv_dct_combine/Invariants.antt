use Prim.Native.Nat.{◌+◌}
use lib.ListN.{length}
use Rattle.kernels.proofs.dct.+dct_recurse_inv_dct_combine.Given as goal

abbrev pub decreases-dct_recurse : goal.decreases-dct_recurse
decreases-dct_recurse l = length l.c.now + length l.c.now

abbrev pub decreases-inv_dct_combine : goal.decreases-inv_dct_combine
decreases-inv_dct_combine l = length l.c.now + l.n
