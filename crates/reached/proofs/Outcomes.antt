-- Two outcomes that a public call's promise allows are the same. Assumes nothing.
use mathlib.Core.Path.{◌≡◌}
use mathlib.Core.List.{List}
use Prim.Native.Nat.{ℕ}
use lib.IntN.{ℤ}
use Rattle.answers.specs.declared.Answer.{Answer}
use Rattle.answers.proofs.Verdicts.{one-outcome}
use Rattle.keeping.specs.Range.{Area}
use Rattle.history.specs.Calls.{Lent, step_of, undo_of, withdraw_verdict, withdraw_of, rebuild_of}

module _ (a : Area) where
  pub step-outcome : (d r c : ℕ) (v : List ℤ) (m : Lent) {x y : Answer × Lent} → x ≡ step_of a d r c v m → y ≡ step_of a d r c v m → x ≡ y
  step-outcome d r c v m = one-outcome

  pub undo-outcome : (m : Lent) {x y : Answer × Lent} → x ≡ undo_of a m → y ≡ undo_of a m → x ≡ y
  undo-outcome m = one-outcome

  pub withdraw-outcome : (q : ℕ) (m : Lent) {x y : Answer × Lent} → x ≡ withdraw_of a q m → y ≡ withdraw_of a q m → x ≡ y
  withdraw-outcome q m = one-outcome

  pub can-withdraw-outcome : (q : ℕ) (m : Lent) {x y : Answer} → x ≡ withdraw_verdict a q m → y ≡ withdraw_verdict a q m → x ≡ y
  can-withdraw-outcome q m = one-outcome

  pub rebuild-outcome : (s : List ℕ) (l : List ℤ) (i : List ℕ) {x y : Answer × List ℕ} → x ≡ rebuild_of a s l i → y ≡ rebuild_of a s l i → x ≡ y
  rebuild-outcome s l i = one-outcome
