-- What `Ends::between` tells of a number, and the verdicts that are made of it. Assumes nothing.
--     fits          a number as the machine has it, tested
--     said          the verdict of one test
use mathlib.Core.Path.{◌≡◌, subst}
use mathlib.Core.Bool.{Bool, true, false}
use Prim.Native.Nat.{ℕ}
use lib.IntN.{ℤ}
use Rattle.std.specs.Prelude.{Result, Ok, Err, MatchResult}
use Rattle.answers.specs.declared.Reason.{Reason}
use Rattle.answers.specs.declared.Reason.TheVariants.{Between}
use Rattle.answers.specs.Answers.{done, refused, unless}
use Rattle.answers.specs.Reasons.{verdict_of}
use Rattle.whole.specs.Numbers.{in_range}

pub fits : (lo hi : ℤ) {m z : ℤ} {b : Bool} → m ≡ z → in_range lo hi m ≡ b → in_range lo hi z ≡ b
fits lo hi {m} {z} {b} e t = subst (λ (x : ℤ). in_range lo hi x ≡ b) e t

pub said : (r : Result Unit Reason) (b : Bool) (p : ℕ) → MatchResult r (λ u. b ≡ true) (λ e. (b ≡ false) × (e ≡ Between p)) → verdict_of r ≡ unless b (refused 15 0 p) done
said (Ok u) b p e = rw e
said (Err r) b p e = rw (e.0, e.1)
