-- `kernels::dct::dct_recurse` and `kernels::dct::inv_dct_combine` meet their contracts: one proof, since they call each other. The length
-- falls each time. Assumes nothing.
use mathlib.Core.Path.{◌≡◌, sym, ap, ◌∙◌}
use mathlib.Core.Logic.{inl, inr}
use Prim.Native.Nat.{ℕ}
use Rattle.kernels.specs.Dct.{dct_of, Recursed}
use Rattle.kernels.proofs.EvenOdd.{halved, join-asks, join-left}
use Rattle.kernels.proofs.dct.+dct_recurse_inv_dct_combine.Goals as goal

-- the length that is left, where it is neither 4 nor 8
sixteen : {n : ℕ} → (n ≡ 4 → ⊥) → (n ≡ 8 → ⊥) → Recursed n → n ≡ 16
sixteen p q (inl e) = absurd (p e)
sixteen p q (inr (inl e)) = absurd (q e)
sixteen p q (inr (inr e)) = e

pub dct_recurse-returns-in-8 : goal.dct_recurse-returns-in-8
dct_recurse-returns-in-8 t c = c.inv_dct_combine.ensures ∙ ap (λ n. dct_of n c.args.c.now) (sym c.in-8.is)

pub dct_recurse-returns-in_default : goal.dct_recurse-returns-in_default
dct_recurse-returns-in_default t c =
    c.inv_dct_combine-in_default.ensures ∙ ap (λ n. dct_of n c.args.c.now) (sym (sixteen c.in_default.in_default-own.rest.0.1 c.in_default.in_default-own.rest.1 c.requires.0))

pub inv_dct_combine-join-requires : goal.inv_dct_combine-join-requires
inv_dct_combine-join-requires t c =
    let a = join-asks (halved c.requires.0 c.requires.1 c.evens.auto.c c.odds.ensures c.evens.ensures) c.dct_recurse.ensures _ in
    record { odd_len_bound = a.0; join_room = a.1 }

pub inv_dct_combine-returns : goal.inv_dct_combine-returns
inv_dct_combine-returns t c = join-left (halved c.requires.0 c.requires.1 c.evens.auto.c c.odds.ensures c.evens.ensures) c.dct_recurse.ensures _ c.join.ensures
