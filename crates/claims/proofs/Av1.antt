-- The transforms of the older edition, from document 02, section 12. Assumes nothing.
--     dct-by-document, wht-by-document    the call's definition and the document's own steps, one after another, agree on answer, place and numbers, for every
--                                         list, length and bit count
--     dct-keeps, av1-wht-keeps            a refused call leaves its list as it was
--     dct-one, av1-wht-one                two outcomes that the promise allows are the same
use mathlib.Core.Path.{◌≡◌}
use mathlib.Core.List.{List}
use Prim.Native.Nat.{ℕ}
use lib.IntN.{ℤ}
use Rattle.av1.specs.Calls.{dct_of}
use Rattle.av1.proofs.Outcomes.{dct-leaves, dct-same}
use Rattle.av1_wht.specs.Wht.{wht_of}
use Rattle.av1_wht.proofs.Outcomes.{wht-leaves, wht-same}
use Rattle.av1_agree.specs.Document.{by_document}
use Rattle.av1_agree.specs.DocumentWht.{wht_by_document}
use Rattle.av1_agree.proofs.Agree.{agree}
use Rattle.av1_agree.proofs.AgreeWht.{wht-agree}
use Rattle.claims.specs.Outcomes.{Keeps, One}

module _ (n bits : ℕ) (t : List ℤ) where
  pub dct-by-document : dct_of n bits t ≡ by_document n bits t
  dct-by-document = agree bits t n

  pub dct-keeps : Keeps (dct_of n bits t) t
  dct-keeps = dct-leaves n bits t

  pub dct-one : One (dct_of n bits t)
  dct-one = dct-same n bits t

module _ (bits : ℕ) (t : List ℤ) where
  pub wht-by-document : wht_of bits t ≡ wht_by_document bits t
  wht-by-document = wht-agree bits t

  pub av1-wht-keeps : Keeps (wht_of bits t) t
  av1-wht-keeps = wht-leaves bits t

  pub av1-wht-one : One (wht_of bits t)
  av1-wht-one = wht-same bits t
