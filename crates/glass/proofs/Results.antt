-- What holds of a result. Assumes nothing.
--     always-err     what holds anyway
use Rattle.std.specs.Prelude.{Result, Ok, Err, OnErr}

pub always-err : {T E : Type 0} (r : Result T E) {P : Type 0} → P → OnErr r P
always-err (Ok x) p = tt
always-err (Err e) p = p
