-- `av1_wht::inverse` meets its contract: refused as the judge says, and else the numbers are divided and transformed. Assumes nothing.
use mathlib.Core.Path.{◌≡◌, refl, sym, ap, ◌∙◌, subst}
use mathlib.Core.List.{List}
use Prim.Native.Nat.{ℕ}
use lib.IntN.{ℤ}
use Rattle.std.proofs.lemmas.Result.{err_from_is_err_and}
use Rattle.answers.specs.declared.Answer.{Answer}
use Rattle.answers.specs.Answers.{done}
use Rattle.answers.proofs.Verdicts.{ends-err, ends-ok}
use Rattle.wht.specs.Wht.{iwht}
use Rattle.wht.specs.Calls.{Sixteen}
use Rattle.av1_wht.specs.Wht.{quarters, wht_verdict, wht_of}
use Rattle.av1_wht.proofs.Accepted.{Accepted, accepted, divided-small}
use Rattle.av1_wht.proofs.inverse.Goals as goal

fine : (bits : ℕ) (t : List ℤ) → done ≡ wht_verdict bits t → Accepted bits t
fine bits t e = accepted bits t (ap (λ (a : Answer). a.number) (sym e))

pub returns-in_err-judge : goal.returns-in_err-judge
unfolding wht_of
returns-in_err-judge c =
    let r = err_from_is_err_and c.from_residual.result c.from_residual.ensures.1 in
    rw (r.1, r.2) (ends-err c.args.t.now (iwht (quarters c.args.t.now)) c.in_err-judge.field-0.0 c.in_err-judge.ensures)

pub divided-requires : goal.divided-requires
divided-requires c = let a = fine _ _ c.in_ok-judge.ensures in (refl, a.long, a.small)

pub residuals-requires : goal.residuals-requires
residuals-requires c =
    let a = fine _ _ c.in_ok-judge.ensures in
    (subst (Sixteen 262144) (sym c.divided.ensures) (divided-small c.args.t.now a.small), a.long)

pub returns : goal.returns
unfolding wht_of
returns c =
    ap (λ (l : List ℤ). (done, l)) (c.residuals.ensures ∙ ap iwht c.divided.ensures) ∙ ends-ok c.args.t.now (iwht (quarters c.args.t.now)) c.in_ok-judge.ensures
