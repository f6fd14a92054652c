-- The forward transform of four numbers as expressions, for the reflections of crate whole. Definitions only.
--     sum                        what is halved
--     out0, out1, out2, out3     the four results, by the half e: `half`, or `var 4` where it stands as an atom
use Rattle.whole.proofs.Machine.{Mx, var, ◌⊕◌, ◌⊖◌, ◌≫◌}

abbrev pub sum : Mx
sum = var 0 ⊕ var 1 ⊕ var 2 ⊖ var 3

abbrev pub half : Mx
half = sum ≫ 1

abbrev pub out0 : Mx → Mx
out0 e = var 0 ⊕ var 1 ⊕ var 2 ⊖ e

abbrev pub out1 : Mx → Mx
out1 e = e ⊖ var 2

abbrev pub out2 : Mx → Mx
out2 e = var 3 ⊖ var 2 ⊕ e ⊖ var 1

abbrev pub out3 : Mx → Mx
out3 e = e ⊖ var 1
