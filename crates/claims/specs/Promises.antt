-- What a caller has of a public function. Definitions only.
--     Promised n ps r asked learnt promise    a function of n lifetimes, parameters ps and result r asks nothing of its caller, and what the caller
--                                             learns (x the result, left the parameters at exit, of the arguments a) is the promise
-- For a function f of a crate c, `asked` and `learnt` are `Asked` and `Learnt` of Rattle.c.proofs.f.Reads: its `requires` and its `ensures`.
use Rattle.std.specs.Prelude.{List, ℕ}
use contract.Lifetimes.{Lfts}
use denote.Triple.Clauses.{AtExit}
use borrow.Fn.Kinds.{ParamKind, ResultKind, Dens, ended_of, res_t, In, Out}

abbrev pub Promised : (n : ℕ) (ps : List (ParamKind n)) (r : ResultKind n) → In n ps → Out n ps r → Out n ps r → Type 0
Promised n ps r asked learnt promise =
    ((κs : Lfts n) (a : Dens κs ps) → asked κs a)
    × ((κs : Lfts n) (a : Dens κs ps) (x : (res_t r κs).Denot) (left : AtExit (ended_of n ps r) κs) → learnt κs a x left → promise κs a x left)
