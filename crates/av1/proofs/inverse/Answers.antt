-- `av1::inverse` meets its contract: refused as the judge says, and else as the run says. Assumes nothing.
use mathlib.Core.Path.{◌≡◌, sym, ap, ◌∙◌}
use mathlib.Core.List.{List}
use Prim.Native.Nat.{ℕ}
use native.Mathlib.Omega.{arith}
use borrow.Author.Tests.{eq-eqb, ne_eqb}
use lib.IntN.{ℤ}
use Rattle.std.proofs.lemmas.Result.{err_from_is_err_and}
use Rattle.answers.specs.declared.Answer.{Answer}
use Rattle.answers.specs.Answers.{done}
use Rattle.answers.proofs.Verdicts.{refuses}
use Rattle.av1.specs.Calls.{front, ran_of, dct_of}
use Rattle.av1.proofs.Accepted.{Accepted, accepted}
use Rattle.av1.proofs.inverse.Goals as goal

fine : (n bits : ℕ) (t : List ℤ) → done ≡ front n bits t → Accepted n bits t
fine n bits t e = accepted n bits t (ap (λ (a : Answer). a.number) (sym e))

pub returns-in_err-judge : goal.returns-in_err-judge
unfolding dct_of
returns-in_err-judge c =
    let r = err_from_is_err_and c.from_residual.result c.from_residual.ensures.1 in
    let e = c.in_err-judge.ensures in
    rw (r.1, r.2, ne_eqb (front c.args.n c.args.bits c.args.t.now).number 0 (λ q. refuses c.in_err-judge.field-0.0 (ap (λ (a : Answer). a.number) e ∙ q))) (ap (λ (a : Answer). (a, c.args.t.now)) e)

pub of_bits-requires : goal.of_bits-requires
of_bits-requires c = let a = fine _ _ _ c.in_ok-judge.ensures in (omega (arith, a.least), a.most)

pub by_length-requires : goal.by_length-requires
by_length-requires c =
    let a = fine _ _ _ c.in_ok-judge.ensures in
    record { n_value = (a.okay, a.long); t_bound = a.small }

pub returns : goal.returns
unfolding dct_of ran_of
returns c =
    rw (eq-eqb (front c.args.n c.args.bits c.args.t.now).number 0 (ap (λ (a : Answer). a.number) (sym c.in_ok-judge.ensures))) (rw (c.of_bits.ensures.lo, c.of_bits.ensures.hi) at c.by_length.ensures)
