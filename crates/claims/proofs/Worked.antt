-- P1 to P12 of document 01, "Sums on both sides of an edge". Assumes nothing.
--     all-worked    every call of the table is accepted and leaves the slices that the table has
use mathlib.Core.Path.{◌≡◌, refl}
use mathlib.Core.List.{map}
use Rattle.answers.specs.Answers.{done}
use Rattle.whole.specs.Numbers.{clamp}
use Rattle.whole.specs.Search.{seek}
use Rattle.tables.specs.Dense.{dense_of}
use Rattle.passes.specs.Passes.{scaling, passes_of}
use Rattle.verdicts.specs.Verdicts.{add_verdict}
use Rattle.pixels.specs.Calls.{add_of}
use Rattle.chroma.specs.Chroma.{round256, verdict, cctx_of}
use Rattle.wht.specs.Wht.{fore, fore44, fwht}
use Rattle.wht.specs.Calls.{fwht_of}
use Rattle.claims.specs.Worked.{outcome, wanted, worked}

pub all-worked : map outcome worked ≡ map (λ c. (done, wanted c)) worked
unfolding add_of add_verdict seek passes_of dense_of scaling clamp cctx_of verdict round256 fwht_of fore fore44 fwht
all-worked = refl
