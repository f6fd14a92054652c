-- Two outcomes that a public call's promise allows are the same. Assumes nothing.
use mathlib.Core.Path.{◌≡◌}
use mathlib.Core.List.{List}
use lib.IntN.{ℤ}
use Rattle.answers.specs.declared.Answer.{Answer}
use Rattle.answers.proofs.Verdicts.{one-outcome}
use Rattle.wht.specs.Calls.{fwht_of, iwht_of}

pub fwht-outcome : (resid level : List ℤ) {x y : Answer × List ℤ} → x ≡ fwht_of resid level → y ≡ fwht_of resid level → x ≡ y
fwht-outcome resid level = one-outcome

pub iwht-outcome : (level resid : List ℤ) {x y : Answer × List ℤ} → x ≡ iwht_of level resid → y ≡ iwht_of level resid → x ≡ y
iwht-outcome level resid = one-outcome
