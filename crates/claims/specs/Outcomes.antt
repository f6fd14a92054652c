-- What is claimed of every call c that finds the slices `found`: c is its answer, and what it leaves of them. Definitions only.
--     Keeps c found    where the call is refused, it leaves what it found
--     One c            two outcomes that the promise "the outcome is c" allows are the same
use Rattle.std.specs.Prelude.{◌≡◌}
use Rattle.answers.specs.declared.Answer.{Answer}

abbrev pub Keeps : {A : Type 0} → Answer × A → A → Type 0
Keeps c found = (c.0.number ≡ 0 → ⊥) → c.1 ≡ found

abbrev pub One : {A : Type 0} → Answer × A → Type 0
One {A} c = (x y : Answer × A) → x ≡ c → y ≡ c → x ≡ y
