-- `fits_change` meets its contract, by the search for a bad sample. Assumes nothing.
use native.Mathlib.Nat.{le_refl}
use mathlib.Core.Path.{sym, subst}
use Prim.Native.Nat.{ℕ, ◌≤◌}
use lib.IntN.{pos}
use Rattle.whole.specs.Numbers.{highest}
use Rattle.whole.proofs.Num.{back}
use Rattle.whole.proofs.Search.{seek-passed}
use Rattle.wht.specs.Calls.{number_ok}
use Rattle.orders.proofs.fits_change.Goals as goal

pub returns-in-None : goal.returns-in-None
returns-in-None c =
    let q = c.args in
    let h = c.high_end-high in
    record {
      count = c.requires.1;
      good = seek-passed (number_ok (pos 0) (highest q.depth) q.wanted.now) 16
          (subst (λ (k : ℕ). 16 ≤ k) (sym (rw (back h.type_inv, h.ensures) at c.in-None.ensures)) (le_refl 16));
    }
